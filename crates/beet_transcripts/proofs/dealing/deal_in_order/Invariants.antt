use Rattle.std.proofs.Common.{take}
use Rattle.beet_book.specs.Farmers.{farmers_of}
use Rattle.beet_transcripts.specs.DealtBooks.{HasDealt}
use Rattle.beet_transcripts.proofs.dealing.deal_in_order.Given as goal

abbrev pub invariant-loop-i : goal.invariant-loop-i
invariant-loop-i l = HasDealt l.grid l.whom (farmers_of (take l.i l.bidders) (take l.i l.words)) l.totals l.seen
