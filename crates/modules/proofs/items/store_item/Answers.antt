-- `items::store_item` meets its contract.
use Rattle.std.proofs.Common.{rules}
use Rattle.modules.specs.Laws.Puts.{word-put}
use Rattle.modules.proofs.items.store_item.Goals as goal

pub returns-in-Word : goal.returns-in-Word
returns-in-Word c =
    word-put _ _ _ _ _ _ _ _ c.in-Word.is c.requires.1 c.requires.2 (search rules) c.relocate.ensures (rw c.to_le_bytes.ensures at c.store-in-Word.ensures)
