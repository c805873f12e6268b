-- Demand 3 is not empty: each instance is computed.
use Prim.Native.Nat.{ℕ, zero, suc}
use mathlib.Core.Path.{◌≡◌, refl}
use mathlib.Core.List.{List, [], ◌∷◌, ◌++◌, map}
use native.Mathlib.Omega.{arith}
use native.Mathlib.Nat.{le_of_suc-le-suc}
use lib.Dec.{lit<}
use lib.ListN.{get_or}
use borrow.Author.Rules.{rules}
use Rattle.word.specs.Word.{wrap_add}
use Rattle.memory.specs.Memory.{peek_of, poke_of}
use Rattle.memory.specs.Map.{holds, cell_at, bad_map}
use Rattle.memory.specs.Bus.{Bus, read_of, store_of, admission_of}
use Rattle.memory.specs.Laws.{AgreeAt}
use Rattle.decode.specs.Decode.{control_instruction, status_instruction, low_instruction, instruction_of, is_unspecified, decode_at}
use Rattle.decode.specs.Rows.{interruptible_entry, plain_entry, control_entry, register_entry, branch_cycles, branch_entry, memory_words, store_entry}
use Rattle.decode.specs.Reads.{decoding_reads}
use Rattle.cpu.specs.Machine.{seen_by}
use Rattle.cpu.specs.Branch.{condition_holds, is_taken, branch}
use Rattle.cpu.specs.Execute.{begun}
use Rattle.cpu.specs.Step.{noted, plan_of, granted, execution_words, executed_from, executed, admitted_action, action_of, step_of}
use Rattle.cpu.specs.Steps.{StepMade, steps_from, cycles_of_all}
use Rattle.meter.specs.Walk.{limit_of, start_at, place_after, row_turn, turn_at, walk_by, walk_on, walk_from}
use Rattle.meter.specs.Scan.{longer_than, lower_than, longest_by, lowest_by}
use Rattle.meter.specs.Meter.{wait_of, named_of, scan_admission, region_of}
use Rattle.meter.specs.Reads.{reads_by, reads_on, reads_from}
use Rattle.guarantees.specs.Grants.{grants, before_grant}
use Rattle.guarantees.specs.Unstored.{Unstored}
use Rattle.guarantees.specs.Instances.{NotEmpty}

-- buses that give the same words agree
agree-from : (xs : List ℕ) (b c : Bus) → map (read_of b) xs ≡ map (read_of c) xs → AgreeAt xs b c
agree-from [] b c e = tt
agree-from (x ∷ xs) b c e = (cc, agree-from xs b c (cc))

agree_at : (reads : List (List ℕ)) (i : ℕ) (b c : Bus) → map (map (read_of b)) reads ≡ map (map (read_of c)) reads → AgreeAt (get_or reads i []) b c
agree_at [] i b c e = tt
agree_at (r ∷ rest) zero b c e = agree-from r b c (cc)
agree_at (r ∷ rest) (suc i) b c e = agree_at rest i b c (cc)

-- at each step, the words that the walk reads at its later instructions, from the bus before the step or after it
abbrev later : List (List ℕ) → List (List ℕ)
later [] = []
later (r ∷ rest) = rest

later-at : (reads : List (List ℕ)) (i : ℕ) → get_or (later reads) i [] ≡ get_or reads (suc i) []
later-at [] i = refl
later-at (r ∷ rest) i = refl

abbrev words_ahead : (StepMade → Bus) → List (List ℕ) → List StepMade → List (List (List ℕ))
words_ahead of reads [] = []
words_ahead of reads (x ∷ t) = map (map (read_of (of x))) (later reads) ∷ words_ahead of (later reads) t

no_step : {A : Type 0} (earlier : List StepMade) (x : StepMade) (t : List StepMade) → [] ≡ earlier ++ (x ∷ t) → A
no_step [] x t e = let z : ◌≡◌ {A = ℕ} 0 1 = cc in absurd (omega arith)
no_step (y ∷ earlier) x t e = let z : ◌≡◌ {A = ℕ} 0 1 = cc in absurd (omega arith)

-- where they are the same, no store changes one: of the first step, and of the others
unstored : (reads : List (List ℕ)) (t : List StepMade) → words_ahead (λ x. x.bus) reads t ≡ words_ahead (λ x. x.left.bus) reads t → Unstored reads t
unfolding Unstored
unstored reads [] h earlier x rest i e k = no_step earlier x rest e
unstored reads (y ∷ t) h earlier x rest zero e k = absurd (omega arith)
unstored reads (y ∷ t) h [] x rest (suc i) e k =
    let z : y ≡ x = cc in rw (← later-at reads i, ← z) (agree_at (later reads) i y.bus y.left.bus (cc))
unstored reads (y ∷ t) h (z ∷ earlier) x rest (suc i) e k =
    let s : t ≡ earlier ++ (x ∷ rest) = cc in
    rw (← later-at reads i) (unstored (later reads) t (cc) earlier x rest i s (le_of_suc-le-suc k))

-- the first step leaves what the walk reads at its second instruction
first-leaves : (reads : List (List ℕ)) (x : StepMade) (t : List StepMade) → Unstored reads (x ∷ t) → AgreeAt (get_or reads 1 []) x.bus x.left.bus
unfolding Unstored
first-leaves reads x t h = h [] x t 1 refl (lit< tt)

-- NOP's word, as it was loaded and as the store leaves it
changed-word : {rest : Type 0} → ◌≡◌ {A = ℕ} 0x1034 0x34 × rest → ⊥
changed-word e = omega (arith, e.0)

pub not-empty : NotEmpty
unfolding holds cell_at wrap_add peek_of poke_of read_of store_of bad_map admission_of control_instruction status_instruction low_instruction instruction_of is_unspecified decode_at interruptible_entry plain_entry control_entry register_entry branch_cycles branch_entry memory_words store_entry decoding_reads seen_by condition_holds is_taken branch begun noted plan_of granted execution_words executed_from executed admitted_action action_of step_of steps_from cycles_of_all limit_of start_at place_after row_turn turn_at walk_by walk_on walk_from longer_than lower_than longest_by lowest_by wait_of named_of scan_admission region_of reads_by reads_on reads_from grants before_grant
not-empty =
    record {
      opcode = record { premises = record { stands = search rules; low = search rules; unstored = unstored _ _ refl }; answers = refl; granted = refl; after = refl };
      opcode_changed = refl;
      displacement = record { premises = record { stands = search rules; low = search rules; unstored = unstored _ _ refl }; answers = refl; granted = refl; after = refl };
      displacement_changed = refl;
      rom = record { premises = record { stands = search rules; low = search rules; unstored = unstored _ _ refl }; answers = refl; granted = refl; after = refl };
      low_byte = record { premises = record { stands = search rules; low = search rules; unstored = unstored _ _ refl }; answers = refl; granted = refl; after = refl };
      loaded_high_byte = λ p. changed-word (first-leaves _ _ _ p.unstored);
      untaken = record { premises = record { stands = search rules; low = search rules; unstored = unstored _ _ refl }; answers = refl; granted = refl; after = refl };
      exceeded = record { premises = record { stands = search rules; low = search rules; unstored = unstored _ _ refl }; answers = refl; granted = refl; after = refl };
      default = record { premises = record { stands = search rules; low = search rules; unstored = unstored _ _ refl }; answers = refl; granted = refl; after = refl };
      explicit = record { premises = record { stands = search rules; low = search rules; unstored = unstored _ _ refl }; answers = refl; granted = refl; after = refl };
      region = refl;
    }
