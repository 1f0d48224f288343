-- A lot is seen in both sessions.
use Rattle.std.proofs.Common.{◌≡◌, sym, ap, ◌∙◌}
use Rattle.beet_field.specs.declared.point.Point.{Point}
use Rattle.beet_words.specs.Bundles.{Words, bundle_bytes}
use Rattle.beet_bids.specs.Books.{Book}
use Rattle.beet_auction.specs.Endings.{book_finish, book_rounds}
use Rattle.beet_load.specs.Wholes.{CanStart}
use Rattle.beet_lot_map.specs.LotMaps.{LotMapped}
use Rattle.beet_run.specs.Outcomes.{outcome_answer}
use Rattle.beet_view.specs.BookViews.{transcript_for}
use Rattle.beet_job_worlds.specs.declared.seeing.SeenWorlds.{SeenWorlds}
use Rattle.beet_job_worlds.proofs.SecondWords.{can-run, words-uncut}
use Rattle.beet_job_session_pair.proofs.KeptLots.{cleared-is}
use Rattle.beet_job_session_pair.proofs.LotsSeen.{SeesLot}

module _ (s : Point) (first second : Book) (words mapped : Words) (r : CanStart first words)
    (m : LotMapped s first words second mapped) where
  -- three servers can run the second book
  pub second-runs : CanStart second mapped
  second-runs = can-run s first second words mapped r m.agree.grids m.worlds.mapped m.worlds.enough

  -- what is seen of both worlds is what is seen of the lot
  pub sees-lot : (seen : SeenWorlds) →
      seen.reply ≡ outcome_answer first.grid (book_finish first words.masks) (book_rounds first words.masks) →
      seen.first.items ≡ transcript_for first words s → seen.second.items ≡ transcript_for second mapped s →
      seen.words.items ≡ bundle_bytes mapped → SeesLot s first words mapped seen
  sees-lot seen reply one other bundle = record {
    first_seen = one ∙ sym (ap (λ (w : Words). transcript_for first w s) (words-uncut first words r));
    second_seen = other ∙ sym (ap (λ (w : Words). transcript_for second w s) (words-uncut second mapped second-runs)) ∙ m.bytes;
    bundle = bundle;
    reply = reply ∙ sym (cleared-is first words r);
  }
