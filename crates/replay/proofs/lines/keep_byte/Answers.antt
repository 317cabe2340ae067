use Rattle.std.proofs.Common.{ap, ◌∙◌}
use Rattle.tape.specs.Views.{kept}
use Rattle.replay.proofs.Cut.{cut_grows}
use Rattle.replay.proofs.lines.keep_byte.Goals as goal

pub returns : goal.returns
returns c = λ whole e. c.keep.ensures ∙ (ap (λ l. kept l c.args.byte) e ∙ cut_grows whole c.args.byte)
