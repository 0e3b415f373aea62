-- `evening::answer` meets its contract. Assumes nothing.
use Rattle.evening.proofs.Replying.{tells_line}
use Rattle.evening.proofs.answer.Goals as goal

pub returns : goal.returns
returns c = tells_line _ _ c.command.ensures c.reply-answer.ensures c.put.ensures
