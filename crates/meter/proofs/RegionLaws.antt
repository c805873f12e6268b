-- Laws of the meter for a region, in both modes: where it is let in, what it then names, and the second mode beside the first.
use Rattle.std.specs.Prelude.{Result, Ok, Err}
use Rattle.refusal.specs.declared.Refusal.{Refusal}
use Prim.Native.Nat.{ℕ, suc, ◌≤◌}
use mathlib.Core.Path.{◌≡◌, refl, ap, sym, ◌∙◌}
use mathlib.Core.Bool.{Bool, true, false, not, ◌||◌}
use mathlib.Core.List.{List}
use lib.Dec.{eqb, ltb}
use lib.ListN.{length}
use borrow.Author.Tests.{ltb-false, le-ltb, eqb-true}
use Rattle.refusal.specs.declared.Refusal.TheVariants.{WrongSetLength}
use Rattle.refusal.specs.Refusals.{refusal_number}
use Rattle.refusal.specs.Report.{Report, refused, answered, UnlessRefused}
use Rattle.word.proofs.Choice.{cond-true, cond-false, cond_both, cond_either}
use Rattle.memory.specs.Bus.{Bus, admission_of, unless_barred}
use Rattle.memory.proofs.BusLaws.{unless-in}
use Rattle.bitset.specs.Bits.{set_length, contains}
use Rattle.meter.specs.Answer.{Named}
use Rattle.meter.specs.Meter.{answer_from, wait_of, named_of, scan_admission, every_address, region_of, region_reached_of}
use Rattle.meter.specs.Laws.{NamedIs, EveryAddress, NamesItsStarts, NamesItsMembers, SecondMode}
use Rattle.meter.proofs.WalkLaws.{wait-answers}
use Rattle.meter.proofs.ScanLaws.{named-law, named-agree, same-starts}

-- by whether a call is let in
pub unless-either : {A : Type 0} (P : A → Type 0) (a : Result (Unit {0}) Refusal) {refuse : Refusal → A} {x : A} → ((r : Refusal) → P (refuse r)) → (a ≡ Ok (tt {0}) → P x) → P (unless_barred a refuse x)
unless-either P (Ok u) p q = q refl
unless-either P (Err r) p q = p r

-- two calls with the same refusals, that do the same where the second is let in
pub unless-same : {A : Type 0} {p : Result (Unit {0}) Refusal} (q : Result (Unit {0}) Refusal) (refuse : Refusal → A) (x y : A) → p ≡ q → (q ≡ Ok (tt {0}) → x ≡ y) → unless_barred p refuse x ≡ unless_barred q refuse y
unless-same (Ok u) refuse x y e h = rw e (h refl)
unless-same (Err r) refuse x y e h = rw e

-- what is known of a region's call that is let in
pub record RegionIn (b : Bus) (first last limit : ℕ) : Type 0 where
  pub admitted : admission_of b ≡ Ok (tt {0})
  pub ordered : first ≤ last
  pub low : limit ≤ 4096

barred : {A : Type 0} {r : Refusal} → Err r ≡ Ok (tt {0}) → A
barred e = cc

pub region-in : (b : Bus) (first last limit : ℕ) → scan_admission b first last limit ≡ Ok (tt {0}) → RegionIn b first last limit
unfolding scan_admission
region-in b first last limit =
    let P : Result (Unit {0}) Refusal → Type 0 = λ a. a ≡ Ok (tt {0}) → RegionIn b first last limit in
    unless-either P (admission_of b) (λ r. barred)
    (λ a. cond_either P (ltb last first) (λ p. barred)
    (λ p. cond_either P (ltb 4096 limit) (λ q. barred) (λ q e. record { admitted = a; ordered = ltb-false last first p; low = ltb-false 4096 limit q })))

pub lets_in : (b : Bus) (first last limit : ℕ) → RegionIn b first last limit → scan_admission b first last limit ≡ Ok (tt {0})
unfolding scan_admission
lets_in b first last limit k = unless-in _ _ k.admitted ∙ cond-false _ _ (le-ltb _ _ k.ordered) ∙ cond-false _ _ (le-ltb _ _ k.low)

-- the first mode: what it answers where it is let in
module _ (b : Bus) (first last limit : ℕ) where
  pub region-end : {x : Report Named} {n : Named} → x ≡ answered n → n ≡ named_of every_address (answer_from b limit) first last → scan_admission b first last limit ≡ Ok (tt {0}) → x ≡ region_of b first last limit
  unfolding region_of
  region-end e q a = e ∙ ap answered q ∙ sym (unless-in _ _ a)

  pub region-answers : admission_of b ≡ Ok (tt {0}) → first ≤ last → limit ≤ 4096 → region_of b first last limit ≡ answered (named_of every_address (answer_from b limit) first last)
  region-answers p q r = sym (region-end refl refl (lets_in b first last limit (record { admitted = p; ordered = q; low = r })))

pub names-its-starts : NamesItsStarts
unfolding region_of
names-its-starts b first last limit =
    unless-either (UnlessRefused (NamedIs EveryAddress (answer_from b limit) first (suc last))) (scan_admission b first last limit) (λ r. tt)
    (λ e. same-starts _ EveryAddress (λ a. (λ k. tt, λ k. refl)) _ _ _ _ (named-law every_address (answer_from b limit) first last (region-in b first last limit e).ordered))

-- the second mode
module _ (b : Bus) (first last limit : ℕ) (clear set : List ℕ) where
  pub reached-end : {x : Report Named} {n : Named} → x ≡ answered n → n ≡ named_of (contains clear) (answer_from b limit) first last → scan_admission b first last limit ≡ Ok (tt {0}) →
      length clear ≡ set_length → length set ≡ set_length → x ≡ region_reached_of b first last limit clear set
  unfolding region_reached_of
  reached-end e q a p r = e ∙ ap answered q ∙ sym (unless-in _ _ a ∙ rw (p, r))

  -- .. where a buffer is of another length
  pub reached-wrong : scan_admission b first last limit ≡ Ok (tt {0}) → (length clear ≡ set_length → length set ≡ set_length → ⊥) → refused (refusal_number WrongSetLength) ≡ region_reached_of b first last limit clear set
  unfolding region_reached_of
  reached-wrong a h = sym (unless-in _ _ a ∙ cond-true _ _ (go (eqb (length clear) set_length) (eqb (length set) set_length) refl refl))
    where
      go : (p q : Bool) → eqb (length clear) set_length ≡ p → eqb (length set) set_length ≡ q → (not p || not q) ≡ true
      go true true e f = absurd (h (eqb-true _ _ e) (eqb-true _ _ f))
      go true false e f = refl
      go false q e f = refl

  -- .. what holds of its answer where it is let in
  unless-refused : (P : Named → Type 0) → (RegionIn b first last limit → P (named_of (contains clear) (answer_from b limit) first last)) → UnlessRefused P (region_reached_of b first last limit clear set)
  unfolding region_reached_of
  unless-refused P h =
      unless-either (UnlessRefused P) (scan_admission b first last limit) (λ r. tt)
      (λ e. cond_both (UnlessRefused P) (not (eqb (length clear) set_length) || not (eqb (length set) set_length)) tt (h (region-in b first last limit e)))

  as_first : length clear ≡ set_length → length set ≡ set_length → ((a : ℕ) → first ≤ a → a ≤ last → contains clear a ≡ true) → region_reached_of b first last limit clear set ≡ region_of b first last limit
  unfolding region_of region_reached_of
  as_first p q h =
      unless-same (scan_admission b first last limit) _ _ _ refl
      (λ e. rw (p, q) (ap answered (named-agree (contains clear) every_address _ (answer_from b limit) first last (region-in b first last limit e).ordered (λ a l k. record { starts = h a l k; alike = λ m. refl }))))

  set_unread : (set' : List ℕ) → length set ≡ length set' → region_reached_of b first last limit clear set ≡ region_reached_of b first last limit clear set'
  unfolding region_reached_of
  set_unread set' e = rw e

pub names-its-members : NamesItsMembers
names-its-members b first last limit clear set =
    unless-refused b first last limit clear set (NamedIs (λ a. contains clear a ≡ true) (answer_from b limit) first (suc last))
    (λ k. named-law (contains clear) (answer_from b limit) first last k.ordered)

pub second_mode : SecondMode
second_mode =
    record {
      as_first = as_first;
      set_unread = set_unread;
      waits_answer = λ b first last limit clear set.
          unless-refused b first last limit clear set (λ n. (s : ℕ) → wait_of b s limit ≡ answered (answer_from b limit s)) (λ k s. wait-answers b s limit k.admitted k.low);
    }
