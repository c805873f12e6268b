-- Cases of three rows.
use Rattle.std.specs.Prelude.{ℕ, zero, suc, cond, Bool, ◌≡◌, List, [], ◌∷◌, length, drop, slice_index_or}
use Rattle.std.specs.List.{FoldsTo}
use Rattle.harness.specs.declared.cases.Case.{Case}
use Rattle.harness.specs.declared.cases.Cases.{Cases}
use Rattle.harness.specs.declared.tally.Tally.{Tally}
use Rattle.harness.specs.Tally.{no_cases, counted_of}
use Rattle.harness.specs.Text.{rows_of, rows_left, is_remark}

-- a case by its rows
abbrev pub CaseRows : Type 0
CaseRows = List (List ℕ)

abbrev pub rows_of_case : Case → CaseRows
rows_of_case case = case.first.now ∷ case.second.now ∷ case.third.now ∷ []

-- the cases of rows, found by at most so many turns: a row that is no remark is the first of a case's three; empty rows stand for those behind the last
unfoldable pub cases_by : ℕ → List (List ℕ) → List CaseRows
cases_by zero rows = []
cases_by (suc n) [] = []
cases_by (suc n) (row ∷ rows) =
    cond (is_remark row) (cases_by n rows)
    ((row ∷ slice_index_or rows 0 [] ∷ slice_index_or (drop 1 rows) 0 [] ∷ []) ∷ cases_by n (drop 1 (drop 1 rows)))

-- no rows tell more cases than there are rows
unfoldable pub cases_in : List (List ℕ) → List CaseRows
cases_in rows = cases_by (length rows) rows

abbrev pub cases_of : List ℕ → List CaseRows
cases_of text = cases_in (rows_of text)

-- those that are still to come
abbrev pub cases_left : Cases → List CaseRows
cases_left s = cases_in (rows_left s.rows)

-- one turn over cases, by what a judge may do: a case of these rows got an answer, which left the judge as it is behind the turn and was counted
abbrev pub IsJudged : {J : Type 0} → (J → Case → Bool → J → Type 0) → J × Tally → CaseRows → J × Tally → Type 0
IsJudged judges before rows after =
    (case : Case) × (well : Bool)
    × (rows_of_case case ≡ rows)
    × judges before.0 case well after.0
    × (after.1 ≡ counted_of before.1 well)

-- each of the cases was judged once, in their order, and the tally counts just the answers that they got
abbrev pub Judged : {J : Type 0} → (J → Case → Bool → J → Type 0) → J → J → List CaseRows → Tally → Type 0
Judged judges before after cases tally = FoldsTo (IsJudged judges) (before, no_cases) cases (after, tally)
