-- The paths fix the reached set's buffers, and with them all that the call leaves; what its summary counts; and that its answers are told apart.
use Prim.Native.Nat.{ℕ}
use mathlib.Core.Path.{◌≡◌, refl, sym, ap, ap₂, ◌∙◌, subst}
use mathlib.Core.Bool.{Bool, true, false, cond, ◌||◌}
use mathlib.Core.List.{List}
use mathlib.Core.Logic.{◌↔◌, ◌⊎◌, inl, inr}
use lib.Dec.{ltb}
use lib.ListN.{length}
use Rattle.std.proofs.Common.{Result, Ok, Err, Option, None, Some}
use Rattle.refusal.specs.declared.Refusal.{Refusal}
use Rattle.refusal.specs.declared.Refusal.TheVariants.{TooManyEntries, WrongSetLength}
use Rattle.refusal.specs.Refusals.{refusal_number}
use Rattle.refusal.specs.Report.{Report, refused, answered}
use Rattle.reach.specs.Answer.{summary_told}
use Rattle.refusal.proofs.ReportLaws.{no_answer, told-apart, reported-apart}
use Rattle.memory.specs.Bus.{Bus, read_of, admission_of, unless_barred}
use Rattle.bitset.specs.Bits.{contains, in_either, LowestOrNone, none, lowest_at, lowest_or_none, is_wrong_length, SetBuffer}
use Rattle.bitset.proofs.SetLaws.{same-members}
use Rattle.reach.specs.declared.Node.{Node}
use Rattle.reach.specs.Ways.{node_at, successors}
use Rattle.reach.specs.Paths.{Reached}
use Rattle.reach.specs.Summary.{SetSummary, summary_of}
use Rattle.reach.specs.Reach.{ReachedSet, most_entries, reach_of, Unmoved, LeavesSet, Reaches}
use Rattle.reach.specs.Laws.{ReachedSetIsOne, SameOutcome, ReachIsOne, RefusesAlike, ReachedAddress, SummaryLaws, ReachAnswersApart}
use Rattle.reach.specs.Inner.Explore.{marked}
use Rattle.reach.proofs.SummaryLaws.{same_bool, or-true, writer-is, is-writer}

-- two buffers with the same members
one : {R : ℕ → Type 0} (c d : List ℕ) → SetBuffer c → SetBuffer d → ((a : ℕ) → (contains c a ≡ true) ↔ R a) → ((a : ℕ) → (contains d a ≡ true) ↔ R a) → c ≡ d
one c d p q f g = same-members c d p q (λ a. same_bool (contains c a) (contains d a) (λ h. (g a).1 ((f a).0 h)) (λ h. (f a).1 ((g a).0 h)))

pub reached-set-is-one : ReachedSetIsOne
reached-set-is-one next entries clear set clear' set' k k' =
    record {
      clears = one clear clear' k.clear_buffer k'.clear_buffer k.in_clear k'.in_clear;
      sets = one set set' k.set_buffer k'.set_buffer k.in_set k'.in_set;
    }

-- the tests of the call: it is refused whatever it would answer, or it answers that
Refuses : Result (Unit {0}) Refusal → Bool → Bool → Type 0
Refuses a many wrong =
    ((n : ℕ) × ((x : Report SetSummary) → tested a many wrong x ≡ refused n)) ⊎ ((x : Report SetSummary) → tested a many wrong x ≡ x)
  where
    tested : Result (Unit {0}) Refusal → Bool → Bool → Report SetSummary → Report SetSummary
    tested a many wrong x =
        unless_barred a (λ r. refused (refusal_number r))
        (cond many (refused (refusal_number TooManyEntries)) (cond wrong (refused (refusal_number WrongSetLength)) x))

refuses : (a : Result (Unit {0}) Refusal) (many wrong : Bool) → Refuses a many wrong
unfolding Refuses
refuses (Err r) many wrong = inl (refusal_number r, λ x. refl)
refuses (Ok u) true wrong = inl (refusal_number TooManyEntries, λ x. refl)
refuses (Ok u) false true = inl (refusal_number WrongSetLength, λ x. refl)
refuses (Ok u) false false = inr (λ x. refl)

module _ (b : Bus) (entries clear set : List ℕ) where
  -- a refused call moved nothing, and one that answers holds the set
  unmoved : {c s : List ℕ} {r : Report SetSummary} {n : ℕ} → Reaches b entries clear set c s r → r ≡ refused n → Unmoved clear set c s
  unmoved {c} {s} k e = subst (LeavesSet b entries clear set c s) e k.left

  holds-set : {c s : List ℕ} {r : Report SetSummary} {x : SetSummary} → Reaches b entries clear set c s r → r ≡ answered x → ReachedSet (successors (read_of b)) entries c s
  holds-set {c} {s} k e = subst (LeavesSet b entries clear set c s) e k.left

pub reach-is-one : ReachIsOne
unfolding Refuses reach_of
reach-is-one b entries clear set clear₁ set₁ clear₂ set₂ r₁ r₂ k₁ k₂ =
    go (refuses (admission_of b) (ltb most_entries (length entries)) (is_wrong_length clear || is_wrong_length set))
  where
    go : Refuses (admission_of b) (ltb most_entries (length entries)) (is_wrong_length clear || is_wrong_length set) → SameOutcome clear₁ set₁ r₁ clear₂ set₂ r₂
    go (inl p) =
        let e₁ = k₁.answer ∙ p.1 _ in
        let e₂ = k₂.answer ∙ p.1 _ in
        let u₁ = unmoved b entries clear set k₁ e₁ in
        let u₂ = unmoved b entries clear set k₂ e₂ in
        record { buffers = record { clears = u₁.clear_is ∙ sym u₂.clear_is; sets = u₁.set_is ∙ sym u₂.set_is }; answers = e₁ ∙ sym e₂ }
    go (inr p) =
        let e₁ = k₁.answer ∙ p _ in
        let e₂ = k₂.answer ∙ p _ in
        let same = reached-set-is-one (successors (read_of b)) entries clear₁ set₁ clear₂ set₂ (holds-set b entries clear set k₁ e₁) (holds-set b entries clear set k₂ e₂) in
        record { buffers = same; answers = e₁ ∙ ap₂ (λ (c s : List ℕ). answered (summary_of (read_of b) c s)) same.clears same.sets ∙ sym e₂ }

pub refuses-alike : RefusesAlike
unfolding Refuses reach_of
refuses-alike b entries clear set clear₁ set₁ clear₂ set₂ n e =
    go (refuses (admission_of b) (ltb most_entries (length entries)) (is_wrong_length clear || is_wrong_length set))
  where
    go : Refuses (admission_of b) (ltb most_entries (length entries)) (is_wrong_length clear || is_wrong_length set) → reach_of b entries clear set clear₂ set₂ ≡ refused n
    go (inl p) = p.1 _ ∙ sym (p.1 _) ∙ e
    go (inr p) = no_answer (sym e ∙ p _)

-- an address is in one buffer or the other
module _ {next : Node → List Node} {entries clear set : List ℕ} (k : ReachedSet next entries clear set) (a : ℕ) where
  in-one-or-other : (b c : Bool) → contains clear a ≡ b → contains set a ≡ c → (b || c) ≡ true → ReachedAddress next entries a
  in-one-or-other true c p q h = record { double = false; reached = (k.in_clear a).0 p }
  in-one-or-other false c p q h = record { double = true; reached = (k.in_set a).0 (q ∙ h) }

  either : (d : Bool) → Reached next entries (node_at a d) → in_either clear set a ≡ true
  either false r = rw ((k.in_clear a).1 r)
  either true r = or-true (contains clear a) (contains set a) ((k.in_set a).1 r)

  -- with which D it is marked is with which it is reached
  marked-reached : (d : Bool) → (marked clear set (node_at a d) ≡ true) ↔ Reached next entries (node_at a d)
  marked-reached false = k.in_clear a
  marked-reached true = k.in_set a

pub summary-laws : SummaryLaws
summary-laws =
    record {
      addresses = λ next entries clear set k a. (in-one-or-other k a (contains clear a) (contains set a) refl refl, λ r. either k a r.double r.reached);
      writers =
          λ read next entries clear set k a. (
            λ h. let w = is-writer read clear set a h in record { double = w.0; reached = (marked-reached k a w.0).0 w.1; writes = w.2 },
            λ r. writer-is read clear set a r.double ((marked-reached k a r.double).1 r.reached) r.writes,
          );
    }

-- what a term stands for, read back
lowest_back : LowestOrNone → Option ℕ
lowest_back none = None
lowest_back (lowest_at a) = Some a

lowest-back : (l : Option ℕ) → lowest_back (lowest_or_none l) ≡ l
unfolding lowest_back
lowest-back None = refl
lowest-back (Some a) = refl

pub reach-answers-apart : ReachAnswersApart
reach-answers-apart =
    reported-apart summary_told
    (λ s s' e.
    let p : s.addresses ≡ s'.addresses = ap (λ (x : SetSummary). x.addresses) e in
    let q : s.writers ≡ s'.writers = ap (λ (x : SetSummary). x.writers) e in
    let r : s.lowest ≡ s'.lowest = told-apart lowest_or_none lowest_back lowest-back s.lowest s'.lowest (ap (λ (x : SetSummary). x.lowest_writer) e) in
    λ i. record { addresses = p i; writers = q i; lowest = r i })
