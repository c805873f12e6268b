-- The ends of `cp1610_reach`; and that what it leaves is one thing: refused it is what was lent, and else the set fixes the buffers.
use Prim.Native.Nat.{ℕ}
use mathlib.Core.Path.{◌≡◌, refl, sym, ap, ap₂, ◌∙◌, subst}
use mathlib.Core.Bool.{Bool, true, false, true≢false}
use mathlib.Core.List.{List, [], ◌∷◌}
use lib.Dec.{lit≤}
use Rattle.refusal.specs.declared.Refusal.{Refusal}
use Rattle.refusal.specs.Refusals.{refusal_number}
use Rattle.refusal.specs.Report.{Report, refused, answered}
use Rattle.refusal.proofs.ReportLaws.{no_answer}
use Rattle.memory.specs.declared.map.Board.{Board}
use Rattle.memory.specs.Bus.{Bus, bus_on, read_of}
use Rattle.std.specs.Prelude.{Result, Ok, Err}
use Rattle.bitset.specs.Bits.{lowest_or_none}
use Rattle.reach.specs.declared.Summary.{Summary}
use Rattle.reach.specs.Ways.{successors}
use Rattle.reach.specs.Summary.{SetSummary}
use Rattle.reach.specs.Answer.{reach_report}
use Rattle.reach.specs.Reach.{reach_of, Unmoved, LeavesSet, Reaches}
use Rattle.reach.proofs.ReachLaws.{reached-set-is-one, refuses-alike}
use Rattle.cp1610.specs.MapWords.{board_of, on_map}
use Rattle.cp1610.specs.Answers.{is_refusal, short_buffer, success_word}
use Rattle.cp1610.specs.Called.{items, called, CallRule, call_by}
use Rattle.cp1610.specs.ReachCall.{reach_words, reach_call, HoldsSet}
use Rattle.cp1610.specs.Laws.{ReachCallIsOne}
use Rattle.cp1610.proofs.AnswerLaws.{number-low, success-high, no-refusal}

module _ (map : List ℕ) (b : Bus) (entries clear set out clear₁ set₁ clear₂ set₂ : List ℕ) where
  rule : List ℕ → List ℕ → CallRule SetSummary
  rule c s = reach_call map b entries clear set out c s

  -- a success holds the set
  module _ (c s : List ℕ) (x : SetSummary) (e : reach_of b entries clear set c s ≡ answered x) where
    high : (rule c s).short ≡ false → is_refusal (call_by (rule c s)).result ≡ false
    unfolding reach_call rule
    high q = rw (q, e) (success-high 1 0 (lit≤ tt))

  same-lent : (short : Bool) → (rule clear₁ set₁).short ≡ short → (r : Report SetSummary) → reach_of b entries clear set clear₁ set₁ ≡ r →
      HoldsSet b entries clear₁ set₁ (call_by (rule clear₁ set₁)).result → HoldsSet b entries clear₂ set₂ (call_by (rule clear₂ set₂)).result →
      call_by (rule clear₁ set₁) ≡ call_by (rule clear₂ set₂)
  unfolding reach_call rule
  same-lent true q r e h₁ h₂ = rw q
  same-lent false q (refused n) e h₁ h₂ = rw (q, e, refuses-alike b entries clear set clear₁ set₁ clear₂ set₂ n e)
  same-lent false q (answered x) e h₁ h₂ = go (reach_of b entries clear set clear₂ set₂) refl
    where
      go : (r : Report SetSummary) → reach_of b entries clear set clear₂ set₂ ≡ r → call_by (rule clear₁ set₁) ≡ call_by (rule clear₂ set₂)
      go (refused n) f = no_answer (sym (refuses-alike b entries clear set clear₂ set₂ clear₁ set₁ n f) ∙ e)
      go (answered y) f =
          let same = reached-set-is-one (successors (read_of b)) entries clear₁ set₁ clear₂ set₂ (h₁ (high clear₁ set₁ x e q)) (h₂ (high clear₂ set₂ y f q)) in
          ap₂ (λ (c s : List ℕ). call_by (rule c s)) same.clears same.sets

pub reach-call-is-one : ReachCallIsOne
unfolding rule reach_call
reach-call-is-one mem map entries clear set out clear₁ set₁ clear₂ set₂ h₁ h₂ =
    same-lent map (on_map map mem) entries clear set out clear₁ set₁ clear₂ set₂ _ refl _ refl h₁ h₂

-- what a call with this result, this `out` and the buffers c and s must show
abbrev pub Ends : List ℕ → Bus → List ℕ → List ℕ → List ℕ → List ℕ → List ℕ → List ℕ → ℕ → List ℕ → Type 0
Ends map b entries clear set out c s result out' =
    (called result (items c ∷ items s ∷ items out' ∷ []) ≡ call_by (reach_call map b entries clear set out c s)) × HoldsSet b entries c s result

-- a call that is stopped before the set is built: the map is none, or `out` is short
pub reach-short : (map : List ℕ) (b : Bus) (entries clear set out : List ℕ) → (reach_call map b entries clear set out clear set).short ≡ true →
    Ends map b entries clear set out clear set short_buffer out
unfolding reach_call
reach-short map b entries clear set out h = (rw h, λ q. absurd (true≢false q))

-- one that is let through: on the map's board, by the answer of building the set
module _ (map mem entries clear set out : List ℕ) (board : Board) (r : Result Summary Refusal) {c s : List ℕ} (e : board ≡ board_of map)
    (long : (reach_call map (on_map map mem) entries clear set out c s).short ≡ false) (k : Reaches (bus_on board mem) entries clear set c s (reach_report r)) where
  built : Reaches (on_map map mem) entries clear set c s (reach_report r)
  built = rw (← e) k

  pub reach-refuses : {x : Refusal} {n : ℕ} → r ≡ Err x → n ≡ refusal_number x → Ends map (on_map map mem) entries clear set out c s n out
  unfolding reach_call
  reach-refuses {x} p q =
      let f : reach_of (on_map map mem) entries clear set c s ≡ refused (refusal_number x) = sym built.answer ∙ ap reach_report p in
      let u : Unmoved clear set c s = subst (λ (a : Result Summary Refusal). LeavesSet (on_map map mem) entries clear set c s (reach_report a)) p built.left in
      (rw (long, f, q, u.clear_is, u.set_is), λ i. no-refusal (refusal_number x) (rw (← q) i) (number-low x))

  pub reach-builds : {n : Summary} {result : ℕ} {out' : List ℕ} → r ≡ Ok n → result ≡ success_word 1 0 →
      out' ≡ reach_words out (record { addresses = n.addresses; writers = n.writers; lowest_writer = lowest_or_none n.lowest }) → Ends map (on_map map mem) entries clear set out c s result out'
  unfolding reach_call
  reach-builds p q o =
      let f = sym built.answer ∙ ap reach_report p in
      (rw (long, f, q, o), λ i. subst (λ (a : Result Summary Refusal). LeavesSet (on_map map mem) entries clear set c s (reach_report a)) p built.left)
