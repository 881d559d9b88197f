-- `page::steps::page_id` meets its contract. A word that is not whole is a cut.
use native.Mathlib.Omega.{arith}
use Rattle.page.proofs.StepLaws.{id_cut, id_whole}
use Rattle.page.proofs.steps.page_id.Goals as goal

pub returns-then-word-lt-ID_WORD_BYTES : goal.returns-then-word-lt-ID_WORD_BYTES
returns-then-word-lt-ID_WORD_BYTES g c = id_cut _ _ _ (omega arith) c.put_cut.ensures.puts

pub returns : goal.returns
returns g c = id_whole _ _ _ (omega arith) c.number.ensures.value
