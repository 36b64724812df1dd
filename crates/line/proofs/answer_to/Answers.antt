-- `line::answer_to` meets its contract: the answer has room.
use mathlib.Core.Path.{◌∙◌}
use Rattle.line.proofs.Forms.{is_answer, is_unreadable}
use Rattle.line.proofs.Sizes.{short}
use Rattle.line.proofs.answer_to.Goals as goal

pub worded-requires : goal.worded-requires
worded-requires c = rw (is_answer _ c.in-Some.ensures c.lossless.ensures) (short _)

pub returns-in-Some : goal.returns-in-Some
returns-in-Some c = c.worded.ensures ∙ is_answer _ c.in-Some.ensures c.lossless.ensures

pub returns-in-None : goal.returns-in-None
returns-in-None c = c.whole.ensures ∙ is_unreadable _ c.in-None.ensures
