use Rattle.std.proofs.Common.{◌∙◌, arith, refl}
use Rattle.std.proofs.lemmas.Option.{slice_get_read}
use Rattle.beet_load.specs.Wholes.{CanStart}
use Rattle.beet_lot_load.proofs.LotsTelling.{tells-none}
use Rattle.beet_lot_map.specs.LotMaps.{LotMapped}
use Rattle.beet_job_session_pair.proofs.KeptLots.{start-at, start-many}
use Rattle.beet_job_session_pair.proofs.LotsSeen.{seen-all, seen-more, seen-none}
use Rattle.beet_job_session_pair.proofs.SeenLots.{second-runs, sees-lot}
use Rattle.beet_job_session_pair.proofs.answering.see_lots.Given.{Over}
use Rattle.beet_job_session_pair.proofs.answering.see_lots.Goals.{After-index-mapped-i}
use Rattle.beet_job_session_pair.proofs.answering.see_lots.Goals as goal

pub loop-i-init : goal.loop-i-init
loop-i-init g c =
    let lots = c.args.lots.now in
    let new = c.in_ok-seen.ensures in
    let many = c.requires.count in
    record {
      words = start-many lots.books.items lots.words.items c.requires.runs ∙ many;
      seconds = c.requires.mapped.lots ∙ many;
      mapped = c.requires.mapped.count ∙ many;
      seen = seen-none c.args.me c.args.rows.now lots.books.items lots.words.items c.args.mapped.now _
          new.first new.second new.words
          (tells-none c.args.rows.now _ new.told.0 new.told.1);
    }

-- what is known of the lot at a place
module _ (g : Over) (c : After-index-mapped-i g) where
  runs : CanStart c.index-books-i.result c.index-words-i.result
  runs =
      let lots = c.args.lots.now in
      start-at lots.books.items lots.words.items c.loop-i.i c.index-books-i.result c.index-words-i.result c.requires.runs
      (omega (arith, c.requires.count)) (rw c.as_slice-books.ensures.value at c.index-books-i.is)
      (rw c.as_slice-words.ensures.value at c.index-words-i.is)

  mapped : LotMapped c.args.me c.index-books-i.result c.index-words-i.result c.index-seconds-i.result c.index-mapped-i.result
  mapped =
      let lots = c.args.lots.now in
      let inv = c.loop-i.invariant in
      let many = c.requires.count in
      let i = c.loop-i.i in
      c.requires.mapped.each i c.index-books-i.result c.index-words-i.result c.index-seconds-i.result c.index-mapped-i.result
      (omega (arith, many))
      (slice_get_read lots.books.items _ i c.index-books-i.result refl (omega (arith, many))
      (rw c.as_slice-books.ensures.value at c.index-books-i.is))
      (slice_get_read lots.words.items _ i c.index-words-i.result refl (omega (arith, inv.words))
      (rw c.as_slice-words.ensures.value at c.index-words-i.is))
      (slice_get_read c.args.seconds.now _ i c.index-seconds-i.result refl (omega (arith, inv.seconds)) c.index-seconds-i.is)
      (slice_get_read c.args.mapped.now _ i c.index-mapped-i.result refl (omega (arith, inv.mapped)) c.index-mapped-i.is)

pub see_first-requires-clause-runs : goal.see_first-requires-clause-runs
see_first-requires-clause-runs g c κs within =
    runs g (goal.at.see_first-requires-clause-runs g c).After-index-mapped-i

pub and_second-requires-clause-runs : goal.and_second-requires-clause-runs
and_second-requires-clause-runs g c κs within =
    let at = (goal.at.and_second-requires-clause-runs g c).After-index-mapped-i in
    second-runs c.args.me c.index-books-i.result c.index-seconds-i.result c.index-words-i.result c.index-mapped-i.result (runs g at)
    (mapped g at)

pub loop-i-preserved : goal.loop-i-preserved
loop-i-preserved g c =
    let at = (goal.at.loop-i-preserved g c).After-index-mapped-i in
    let lots = c.args.lots.now in
    let inv = c.loop-i.invariant in
    let many = c.requires.count in
    let one = c.in_ok-see_first.ensures in
    let both = c.in_ok-and_second.ensures in
    let seen = c.in_ok-lot.ensures in
    record {
      words = inv.words;
      seconds = inv.seconds;
      mapped = inv.mapped;
      seen = seen-more c.args.me c.args.rows.now lots.books.items lots.words.items c.args.mapped.now c.requires.runs many
          c.requires.mapped.count c.loop-i.i _ c.index-books-i.result c.index-words-i.result c.index-mapped-i.result
          c.in_ok-lot.lot _ _ (omega arith) c.index-rows-i.is (rw c.as_slice-books.ensures.value at c.index-books-i.is)
          (rw c.as_slice-words.ensures.value at c.index-words-i.is) c.index-mapped-i.is inv.seen
          (sees-lot c.args.me c.index-books-i.result c.index-seconds-i.result c.index-words-i.result c.index-mapped-i.result
          (runs g at) (mapped g at) c.in_ok-lot.lot (seen.reply ∙ both.reply ∙ one.reply)
          (seen.first ∙ both.first ∙ one.transcript) (seen.second ∙ both.second) seen.words)
          c.in_ok-added.ensures;
    }

pub returns-clause-seen : goal.returns-clause-seen
returns-clause-seen g c =
    let lots = c.args.lots.now in
    seen-all c.args.me c.args.rows.now lots.books.items lots.words.items c.args.mapped.now c.requires.runs c.requires.count
    c.requires.mapped.count c.loop-i.i _ (omega arith) c.loop-i.invariant.seen
