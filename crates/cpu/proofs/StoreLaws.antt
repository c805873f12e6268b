-- What MVO's change leaves of the registers and the status, and what it stores, is what its row says of the machine begun.
use Prim.Native.Nat.{ℕ, ◌<◌}
use mathlib.Core.Path.{◌≡◌, refl, ap, sym, subst}
use mathlib.Core.Bool.{cond}
use mathlib.Core.List.{List}
use lib.Dec.{leb}
use lib.ListN.{get_or}
use Rattle.word.specs.Word.{wrap_add}
use Rattle.memory.specs.Bus.{Bus, store_of}
use Rattle.decode.specs.Rows.{plain_entry, memory_words, store_entry}
use Rattle.decode.proofs.OpcodeLaws.{by-eight}
use Rattle.cpu.specs.declared.Status.{Status}
use Rattle.cpu.specs.declared.change.Change.{Change}
use Rattle.cpu.specs.Machine.{with_register, beside}
use Rattle.cpu.specs.Inner.Parts.{flags_in}
use Rattle.cpu.specs.Inner.Change.{no_register, goes_to, status_after}
use Rattle.cpu.specs.Inner.Store.{Stores}
use Rattle.cpu.proofs.RowAnswers.{on-is}

module _ (pc : ℕ) (r : List ℕ) (k : Status) (read : ℕ → ℕ) (b : Bus) where
  -- R7 after MVO
  abbrev next : ℕ → ℕ
  next s = wrap_add pc (store_entry s).words

  pub direct-stores : (d n : ℕ) → n ≡ next 0 → Stores 0 d pc r k read b (goes_to k (store_entry 0) n) (store_of b (read (wrap_add pc 1)) (get_or (with_register 7 n r) d 0))
  unfolding store_entry plain_entry memory_words
  direct-stores d n e =
      subst (λ (n : ℕ). Stores 0 d pc r k read b (goes_to k (store_entry 0) n) (store_of b (read (wrap_add pc 1)) (get_or (with_register 7 n r) d 0))) (sym e)
      (record { change = λ external. record { machine = refl; costs = refl }; memory = λ external. refl })

  module _ (on : get_or r 7 0 ≡ wrap_add pc 1) where
    -- the word that is stored: R7 is the address after the opcode
    word-is : (a d : ℕ) → d < 8 → store_of b a (get_or r d 0) ≡ store_of b a (get_or (with_register 7 (wrap_add pc 1) r) d 0)
    word-is a d h = ap (store_of b a) (sym (on-is (wrap_add pc 1) r on d h))

    pub immediate-stores : (d : ℕ) → d < 8 → Stores 7 d pc r k read b (goes_to k (store_entry 7) (next 7)) (store_of b (wrap_add pc 1) (get_or r d 0))
    unfolding store_entry plain_entry memory_words
    immediate-stores d h =
        record { change = λ external. record { machine = refl; costs = refl }; memory = λ external. word-is (wrap_add pc 1) d h }

    -- the change of MVO through R1 to R6
    abbrev through_change : ℕ → Change
    through_change s =
        record {
          destination = no_register;
          value = 0;
          pointer = cond (leb 4 s) s no_register;
          moved = wrap_add (get_or r s 0) 1;
          next = next s;
          cycles = (store_entry s).cycles;
          status = status_after k (store_entry s) (beside 0 (flags_in k)) k.i;
        }

    pub through-stores : (d : ℕ) → d < 8 → (s : ℕ) → s < 8 → (s ≡ 0 → ⊥) → (s ≡ 7 → ⊥) → Stores s d pc r k read b (through_change s) (store_of b (get_or r s 0) (get_or r d 0))
    unfolding store_entry plain_entry memory_words
    through-stores d h =
        by-eight (λ s. (s ≡ 0 → ⊥) → (s ≡ 7 → ⊥) → Stores s d pc r k read b (through_change s) (store_of b (get_or r s 0) (get_or r d 0)))
        (λ z i. absurd (z refl))
        (λ z i. record { change = λ external. record { machine = refl; costs = refl }; memory = λ external. word-is (get_or r 1 0) d h })
        (λ z i. record { change = λ external. record { machine = refl; costs = refl }; memory = λ external. word-is (get_or r 2 0) d h })
        (λ z i. record { change = λ external. record { machine = refl; costs = refl }; memory = λ external. word-is (get_or r 3 0) d h })
        (λ z i. record { change = λ external. record { machine = refl; costs = refl }; memory = λ external. word-is (get_or r 4 0) d h })
        (λ z i. record { change = λ external. record { machine = refl; costs = refl }; memory = λ external. word-is (get_or r 5 0) d h })
        (λ z i. record { change = λ external. record { machine = refl; costs = refl }; memory = λ external. word-is (get_or r 6 0) d h })
        (λ z i. absurd (i refl))
