-- A refused call alters nothing: no kind of success is taken for a refusal.
use mathlib.Core.Path.{◌≡◌}
use mathlib.Core.Bool.{false}
use native.Mathlib.Omega.{arith}
use lib.Dec.{lit≤}
use lib.ListN.{length}
use Rattle.meter.specs.Answer.{Answer, wait, over, halts, unspecified}
use Rattle.cpu.proofs.ActionLaws.{every-cost}
use Rattle.cp1610.specs.Words.{unpacked, lines_of}
use Rattle.cp1610.specs.MapWords.{on_map}
use Rattle.cp1610.specs.Answers.{is_refusal}
use Rattle.cp1610.specs.Call.{reset_call, step_call, run_call}
use Rattle.cp1610.specs.MeterCall.{walked_word, wait_call, region_call, region_reached_call}
use Rattle.cp1610.specs.ListingCall.{list_call, assemble_call}
use Rattle.cp1610.specs.ImageCall.{load_call, write_call}
use Rattle.cp1610.specs.PairCall.{load_pair_call, write_pair_call}
use Rattle.cp1610.specs.ReachCall.{reach_call}
use Rattle.cp1610.specs.Calls.{
  cp1610_reset,
  cp1610_step,
  cp1610_run,
  cp1610_wait,
  cp1610_region,
  cp1610_list,
  cp1610_assemble,
  cp1610_load,
  cp1610_write,
  cp1610_load_pair,
  cp1610_write_pair,
  cp1610_reach,
  cp1610_region_reached,
  RefusedAltersNothing,
}
use Rattle.cp1610.proofs.AnswerLaws.{success-high}
use Rattle.cp1610.proofs.RuleLaws.{refused-keeps}

walked-high : (a : Answer) → is_refusal (walked_word a) ≡ false
walked-high (wait cycles) = success-high 1 cycles (lit≤ tt)
walked-high over = success-high 2 0 (lit≤ tt)
walked-high halts = success-high 3 0 (lit≤ tt)
walked-high (unspecified address) = success-high 4 address (lit≤ tt)

pub refused-alters-nothing : RefusedAltersNothing
unfolding reset_call step_call run_call wait_call region_call list_call assemble_call load_call write_call load_pair_call write_pair_call reach_call region_reached_call
refused-alters-nothing (cp1610_reset state) = refused-keeps (reset_call state) (λ m e. success-high 1 0 (lit≤ tt))
refused-alters-nothing (cp1610_step state mem map lines) =
    refused-keeps (step_call state map (on_map map mem) lines)
    (λ x e. success-high x.kind x.cycles (omega (arith, (every-cost (unpacked state) (on_map map mem) (lines_of lines) x e).kinds)))
refused-alters-nothing (cp1610_run state mem map lines budget out) =
    refused-keeps (run_call state map (on_map map mem) lines budget out) (λ x e. success-high 1 0 (lit≤ tt))
refused-alters-nothing (cp1610_wait mem map address limit) =
    refused-keeps (wait_call map (on_map map mem) address limit) (λ a e. walked-high a)
refused-alters-nothing (cp1610_region mem map first last limit out) =
    refused-keeps (region_call map (on_map map mem) first last limit out) (λ n e. success-high 1 0 (lit≤ tt))
refused-alters-nothing (cp1610_list mem map address d text out) =
    refused-keeps (list_call map (on_map map mem) address d text out) (λ l e. success-high 1 0 (lit≤ tt))
refused-alters-nothing (cp1610_assemble line d words) =
    refused-keeps (assemble_call line d words) (λ ws e. success-high 1 (length ws) (lit≤ tt))
refused-alters-nothing (cp1610_load board mem file) =
    refused-keeps (load_call board mem file) (λ n e. success-high 1 n (lit≤ tt))
refused-alters-nothing (cp1610_write board mem first last room) =
    refused-keeps (write_call board mem first last room) (λ n e. success-high 1 n (lit≤ tt))
refused-alters-nothing (cp1610_load_pair mem bin cfg) =
    refused-keeps (load_pair_call mem bin cfg) (λ n e. success-high 1 n (lit≤ tt))
refused-alters-nothing (cp1610_write_pair mem first last bin cfg out) =
    refused-keeps (write_pair_call mem first last bin cfg out) (λ n e. success-high 1 0 (lit≤ tt))
refused-alters-nothing (cp1610_reach mem map entries clear set out clear' set') =
    refused-keeps (reach_call map (on_map map mem) entries clear set out clear' set') (λ x e. success-high 1 0 (lit≤ tt))
refused-alters-nothing (cp1610_region_reached mem map first last limit clear set out) =
    refused-keeps (region_reached_call map (on_map map mem) first last limit clear set out) (λ n e. success-high 1 0 (lit≤ tt))
