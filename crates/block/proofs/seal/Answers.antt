-- `seal` meets its contract: the law of two stored words. Assumes nothing.
use Rattle.block.proofs.Blocks.{sealing}
use Rattle.block.proofs.seal.Goals as goal

pub returns : goal.returns
returns c =
    sealing c.args.s.now c.put_word.new.s _ _ _ c.requires c.sums_of-t.ensures.0
    c.sums_of-t.ensures.1 c.put_word.ensures c.put_word-2.ensures
