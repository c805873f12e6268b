-- The answer of a call in the fields after it.
use Rattle.std.specs.Prelude.{ℕ, Bool, cond, ◌&&◌, List, ◌==◌}
use Rattle.harness.specs.Text.{quoted}
use Rattle.harness.specs.Fields.{is_of_key, number_of_key}
use Rattle.harness.specs.Forms.{fit_form}

unfoldable pub tells_refusal : List ℕ → Bool
tells_refusal fields = is_of_key fields (quoted "answer") (quoted "refused")

-- refused with this number
unfoldable pub refuses_by : List ℕ → ℕ → Bool
refuses_by fields number = tells_refusal fields && number_of_key fields (quoted "number") 0 == number

-- refused and nothing else is told, or an answer of this name, with fields that fit the form
unfoldable pub answer_fits : List ℕ → List ℕ → List ℕ → Bool
answer_fits fields name form =
    cond (tells_refusal fields) (fit_form fields (quoted "answer=any number=number"))
    (is_of_key fields (quoted "answer") name && fit_form fields form)
