use Rattle.beet_forms.proofs.ReaderFacts.{passes, passes_none}
use Rattle.beet_forms.proofs.reader.RowReader.begins_with.Goals as goal

pub returns-then-branch : goal.returns-then-branch
returns-then-branch c =
    passes c.is_header.result c.in_ok-next.field-0 _ _ c.next.new.row _ c.in_ok-next.ensures c.if-branch.true c.is_header.ensures.test

pub returns-else-branch : goal.returns-else-branch
returns-else-branch c =
    passes_none c.in_ok-next.field-0 _ _ c.next.new.row _ c.in_ok-next.ensures c.if-branch.false
