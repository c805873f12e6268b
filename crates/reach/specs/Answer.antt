-- What building the set answers, in document 02's terms and numbers.
use Rattle.std.specs.Prelude.{Result}
use Rattle.refusal.specs.declared.Refusal.{Refusal}
use Rattle.refusal.specs.Refusals.{reported}
use Rattle.refusal.specs.Report.{Report}
use Rattle.bitset.specs.Bits.{lowest_or_none}
use Rattle.reach.specs.declared.Summary.{Summary}
use Rattle.reach.specs.Summary.{SetSummary}

abbrev pub summary_told : Summary → SetSummary
summary_told s = record { addresses = s.addresses; writers = s.writers; lowest_writer = lowest_or_none s.lowest }

abbrev pub reach_report : Result Summary Refusal → Report SetSummary
reach_report answer = reported summary_told answer
