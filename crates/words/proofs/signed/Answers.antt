-- `words::signed` meets its contract.
use mathlib.Core.Path.{◌∙◌}
use native.Mathlib.Omega.{arith}
use mir.Syntax.{w32, w64}
use mir.ValLaws.{to_z-of_z}
use Rattle.words.proofs.Ints.{signed_bits}
use Rattle.words.proofs.signed.Goals as goal

pub returns-clause-value : goal.returns-clause-value
returns-clause-value c =
    to_z-of_z w64 c.from.result (record { sfits = c.from.type_inv })
    ∙ c.from.ensures
    ∙ to_z-of_z w32 c.cast_signed.result (record { sfits = c.cast_signed.type_inv })
    ∙ c.cast_signed.ensures
    ∙ signed_bits c.args.w _ (omega arith) c.requires
