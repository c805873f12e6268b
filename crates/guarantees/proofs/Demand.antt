-- Demand 3 holds.
use Rattle.std.proofs.Common.{Ok}
use Prim.Native.Nat.{ℕ, ◌+◌, ◌-◌}
use mathlib.Core.Path.{◌≡◌, refl, sym, subst}
use mathlib.Core.Bool.{Bool, true, false, cond}
use mathlib.Core.List.{List, []}
use native.Mathlib.Omega.{arith}
use lib.ListN.{get_or}
use Rattle.refusal.specs.Report.{answered, UnlessRefused}
use Rattle.memory.specs.Bus.{Bus, read_of, admission_of}
use Rattle.memory.proofs.BusLaws.{agree_same}
use Rattle.cpu.specs.declared.Lines.{Lines}
use Rattle.cpu.specs.Machine.{Machine, register}
use Rattle.cpu.specs.Steps.{steps_from, cycles_of_all, Unrefused}
use Rattle.cpu.proofs.ActionLaws.{steps-length}
use Rattle.meter.specs.Answer.{Answer, wait}
use Rattle.meter.specs.Walk.{limit_of, start_at, walk_on, walk_from}
use Rattle.meter.specs.Meter.{wait_of}
use Rattle.meter.specs.Reads.{reads_on, reads_from}
use Rattle.meter.proofs.WalkLaws.{walk-equation, answers-the-walk, wait-admitted}
use Rattle.meter.proofs.ReadLaws.{reads-equation}
use Rattle.meter.proofs.RegionLaws.{names-its-starts, names-its-members}
use Rattle.guarantees.specs.Grants.{before_grant, last_untaken}
use Rattle.guarantees.specs.Demand.{Premises, Waits, Foretells, Demand3}
use Rattle.guarantees.proofs.GrantLaws.{grant-laws}
use Rattle.guarantees.proofs.FollowLaws.{Follows, wait-follows, over-follows}

-- a sum with 2 more in one case, and without
two-less : (b : Bool) (n w : ℕ) → n + cond b 2 0 ≡ w → n ≡ cond b (w - 2) w
two-less true n w e = omega arith
two-less false n w e = omega arith

module _ (m : Machine) (b : Bus) (ls : List Lines) (limit : ℕ) (premises : Premises m b ls limit) where
  -- the meter's answer is the walk's
  walks : {x : Answer} → wait_of b (register 7 m) limit ≡ answered x → walk_on (read_of b) (limit_of limit) (start_at (register 7 m)) ≡ x
  unfolding walk_from
  walks {x} e = sym (subst (UnlessRefused (λ y. y ≡ walk_from (read_of b) (limit_of limit) (register 7 m))) e (answers-the-walk b (register 7 m) limit))

  -- the machine stands at the walk's start
  start : admission_of b ≡ Ok (tt {0}) → Follows (reads_on (read_of b) (limit_of limit) (start_at (register 7 m))) b m b ls (start_at (register 7 m))
  unfolding start_at reads_from
  start h =
      let s = premises.stands in
      record {
        here = record { admitted = h; pc = refl; mark = s.clear; running = s.running; unready = s.unready };
        low = premises.low;
        same = λ i. agree_same (get_or (reads_on (read_of b) (limit_of limit) (start_at (register 7 m))) i []) b;
        quiet = premises.unstored;
      }

  waits : (w : ℕ) → wait_of b (register 7 m) limit ≡ answered (wait w) → Waits (steps_from m b ls) w
  unfolding start_at
  waits w e =
      let r = wait-follows ls m b b (limit_of limit) (start_at (register 7 m)) w (start (wait-admitted b (register 7 m) limit e)) (walks e) in
      record {
        exact = λ g. two-less (last_untaken (before_grant (steps_from m b ls))) (cycles_of_all (before_grant (steps_from m b ls))) w (omega (arith, r.exact g));
        unrefused = λ g. r.unrefused;
        reached = λ g. r.reached (omega (arith, steps-length m b ls));
        ended = λ g. subst Unrefused (grant-laws.whole (steps_from m b ls) g) r.unrefused;
      }

  steps : Foretells m b ls limit
  unfolding start_at
  steps =
      record {
        waits = waits;
        exceeds =
            λ e g.
            omega (
              arith,
              over-follows ls m b b (limit_of limit) (start_at (register 7 m)) (start (wait-admitted b (register 7 m) limit e)) (walks e) g,
            );
      }

pub demand3 : Demand3
demand3 =
    record {
      walks = walk-equation;
      reads = reads-equation;
      answers = answers-the-walk;
      steps = steps;
      regions = names-its-starts;
      members = names-its-members;
    }
