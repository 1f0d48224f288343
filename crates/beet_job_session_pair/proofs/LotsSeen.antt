-- The lots of two sessions are seen, one after another.
use Rattle.std.proofs.Common.{◌≡◌, ◌<◌, ◌≤◌, ◌+◌, ℕ, zero, suc, List, [], ◌∷◌, ◌++◌, map, take, length, get_or, refl, sym, ap, subst, ◌∙◌}
use Rattle.std.proofs.Common.{arith, append-nil}
use Rattle.std.specs.List.{flat_map}
use Rattle.std.proofs.lemmas.List.{flat_map_more, get_or-map, length-map, length-take-le, take_all, take_more}
use Rattle.beet_field.specs.declared.point.Point.{Point}
use Rattle.beet_words.specs.Bundles.{Words, bundle_bytes}
use Rattle.beet_bids.specs.Books.{Book}
use Rattle.beet_auction_map.specs.ViewsWith.{transcript_with}
use Rattle.beet_errand.specs.Errands.{Answer}
use Rattle.beet_load.specs.WholeViews.{loaded_with}
use Rattle.beet_run.specs.Outcomes.{cleared}
use Rattle.beet_lot_files.specs.declared.session_file.LotRow.{LotRow}
use Rattle.beet_lot_load.specs.Telling.{TellsLots}
use Rattle.beet_lot_load.proofs.LotsTelling.{tells-more}
use Rattle.beet_lot_map.specs.LotMaps.{session_transcripts}
use Rattle.beet_lot_view.specs.SessionViews.{lot_part, lots_start, view_magic, words_magic}
use Rattle.beet_job_worlds.specs.declared.seeing.SeenWorlds.{SeenWorlds}
use Rattle.beet_job_session_pair.specs.Kept.{loaded_each}
use Rattle.beet_job_session_pair.specs.Seeing.{AddsLot, AreSeen}
use Rattle.beet_job_session_pair.specs.Starting.{CanStartEach}
use Rattle.beet_job_session_pair.specs.declared.answering.SeenSessions.{SeenSessions}
use Rattle.beet_job_session_pair.proofs.KeptLots.{loaded-at, loaded-many}

-- a lot is seen in both sessions: the server sees the same, the bundle is that of the mapped words, and it is told how
-- the first auction ends
pub record SeesLot (s : Point) (first : Book) (words mapped : Words) (seen : SeenWorlds) : Type 0 where
  pub first_seen : seen.first.items ≡ transcript_with first words s
  pub second_seen : seen.second.items ≡ transcript_with first words s
  pub bundle : seen.words.items ≡ bundle_bytes mapped
  pub reply : seen.reply ≡ cleared (loaded_with first words)

-- one part more is put behind the others
parts-more : (parts : List (List ℕ)) (n : ℕ) (part front before after : List ℕ) → n < length parts → get_or parts n part ≡ part →
    before ≡ front ++ flat_map lot_part (take n parts) → after ≡ before ++ lot_part part →
    after ≡ front ++ flat_map lot_part (take (n + 1) parts)
parts-more parts n part front before after lt at so_far more =
    more ∙ ap (λ t. t ++ lot_part part) so_far ∙ flat_map_more lot_part front (take n parts) part
    ∙ ap (λ (l : List (List ℕ)). front ++ flat_map lot_part l)
    (sym (take_more parts n part lt ∙ ap (λ (x : List ℕ). take n parts ++ x ∷ []) at))

module _ (s : Point) (rows : List LotRow) (books : List Book) (words mapped : List Words) where
  -- how each lot ends
  abbrev pub answers : List Answer
  answers = map cleared (loaded_each books words)

  -- what the server sees of each
  abbrev pub transcripts : List (List ℕ)
  transcripts = session_transcripts s books words

  -- so many lots are seen
  pub record SeenBefore (n : ℕ) (seen : SeenSessions) : Type 0 where
    pub first : seen.first ≡ lots_start view_magic (length rows) ++ flat_map lot_part (take n transcripts)
    pub second : seen.second ≡ lots_start view_magic (length rows) ++ flat_map lot_part (take n transcripts)
    pub second_words : seen.words ≡ lots_start words_magic (length rows) ++ flat_map lot_part (take n (map bundle_bytes mapped))
    pub told : TellsLots rows (take n answers) seen.told

  -- no lot is seen yet
  pub seen-none : (seen : SeenSessions) → seen.first ≡ lots_start view_magic (length rows) →
      seen.second ≡ lots_start view_magic (length rows) → seen.words ≡ lots_start words_magic (length rows) →
      TellsLots rows [] seen.told → SeenBefore 0 seen
  seen-none seen a b w t = record {
    first = a ∙ sym (append-nil (lots_start view_magic (length rows)));
    second = b ∙ sym (append-nil (lots_start view_magic (length rows)));
    second_words = w ∙ sym (append-nil (lots_start words_magic (length rows)));
    told = t;
  }

transcripts-many : (s : Point) (books : List Book) (words : List Words) → CanStartEach books words →
    length (session_transcripts s books words) ≡ length books
transcripts-many s [] [] h = refl
transcripts-many s [] (w ∷ words) h = absurd h
transcripts-many s (b ∷ books) [] h = absurd h
transcripts-many s (b ∷ books) (w ∷ words) h = ap suc (transcripts-many s books words h.1)

transcript-at : (s : Point) (books : List Book) (words : List Words) (k : ℕ) (book : Book) (held : Words) (d : List ℕ) →
    CanStartEach books words → k < length books → book ≡ get_or books k book → held ≡ get_or words k held →
    get_or (session_transcripts s books words) k d ≡ transcript_with book held s
transcript-at s [] words k book held d h lt e f = absurd (omega (arith, lt))
transcript-at s (b ∷ books) [] k book held d h lt e f = absurd h
transcript-at s (b ∷ books) (w ∷ words) zero book held d h lt e f =
    ap (λ (x : Book). transcript_with x w s) (sym e) ∙ ap (λ (x : Words). transcript_with book x s) (sym f)
transcript-at s (b ∷ books) (w ∷ words) (suc k) book held d h lt e f =
    transcript-at s books words k book held d h.1 (omega (arith, lt)) e f

module _ (s : Point) (rows : List LotRow) (books : List Book) (words mapped : List Words) (starts : CanStartEach books words)
    (many : length books ≡ length rows) (as-many : length mapped ≡ length books) where
  -- one lot more is seen
  pub seen-more : (n : ℕ) (row : LotRow) (book : Book) (held other : Words) (lot : SeenWorlds) (before after : SeenSessions) →
      n < length rows → row ≡ get_or rows n row → book ≡ get_or books n book → held ≡ get_or words n held →
      other ≡ get_or mapped n other → SeenBefore s rows books words mapped n before → SeesLot s book held other lot →
      AddsLot row lot before after → SeenBefore s rows books words mapped (n + 1) after
  seen-more n row book held other lot before after lt er eb eh eo b sees more =
      let seen : List (List ℕ) = session_transcripts s books words in
      let ended : List Answer = map cleared (loaded_each books words) in
      let long = transcripts-many s books words starts in
      let lots = loaded-many books words starts in
      let count = length-map (loaded_each books words) cleared in
      let within : n < length books = omega (arith, lt, many) in
      let at = transcript-at s books words n book held (transcript_with book held s) starts within eb eh in
      let bundle : get_or (map bundle_bytes mapped) n (bundle_bytes other) ≡ bundle_bytes other =
      get_or-map bundle_bytes mapped n other (bundle_bytes other) (omega (arith, within, as-many)) ∙ ap bundle_bytes (sym eo) in
      let answer : get_or ended n lot.reply ≡ lot.reply =
      get_or-map cleared (loaded_each books words) n (loaded_with book held) lot.reply (omega (arith, within, lots))
      ∙ ap cleared (loaded-at books words n book held (loaded_with book held) starts within eb eh) ∙ sym sees.reply in
      let front : take (n + 1) ended ≡ take n ended ++ lot.reply ∷ [] =
      take_more ended n lot.reply (omega (arith, within, lots, count)) ∙ ap (λ (a : Answer). take n ended ++ a ∷ []) answer in
      let told : length (take n ended) ≡ n = length-take-le n ended (omega (arith, within, lots, count)) in
      let magics : List ℕ = lots_start view_magic (length rows) in
      record {
        first = parts-more seen n (transcript_with book held s) magics before.first after.first (omega (arith, within, long)) at b.first
            (more.first ∙ ap (λ t. before.first ++ lot_part t) sees.first_seen);
        second = parts-more seen n (transcript_with book held s) magics before.second after.second (omega (arith, within, long)) at
            b.second
            (more.second ∙ ap (λ t. before.second ++ lot_part t) sees.second_seen);
        second_words = parts-more (map bundle_bytes mapped) n (bundle_bytes other) (lots_start words_magic (length rows)) before.words
            after.words
            (let long' = length-map mapped bundle_bytes in omega (arith, within, as-many, long')) bundle b.second_words
            (more.words ∙ ap (λ t. before.words ++ lot_part t) sees.bundle);
        told = subst (λ (l : List Answer). TellsLots rows l after.told) (sym front)
            (tells-more rows (take n ended) row lot.reply before.told after.told (omega (arith, told, lt))
            (er ∙ ap (λ k. get_or rows k row) (sym told)) b.told more.told);
      }

  -- all lots are seen
  pub seen-all : (n : ℕ) (seen : SeenSessions) → length rows ≤ n → SeenBefore s rows books words mapped n seen →
      AreSeen s rows books words mapped seen
  seen-all n seen all b =
      let shown : List (List ℕ) = session_transcripts s books words in
      let ended : List Answer = map cleared (loaded_each books words) in
      let long = transcripts-many s books words starts in
      let lots = loaded-many books words starts in
      let count = length-map (loaded_each books words) cleared in
      let bundles = length-map mapped bundle_bytes in
      let view : length rows ≡ length shown = omega (arith, long, many) in
      let held : length rows ≡ length (map bundle_bytes mapped) = omega (arith, bundles, as-many, many) in
      let whole : take n shown ≡ shown = take_all n shown (omega (arith, view, all)) in
      record {
        first = b.first ∙ ap (λ k. lots_start view_magic k ++ flat_map lot_part (take n shown)) view
            ∙ ap (λ l. lots_start view_magic (length shown) ++ flat_map lot_part l) whole;
        second = b.second ∙ ap (λ k. lots_start view_magic k ++ flat_map lot_part (take n shown)) view
            ∙ ap (λ l. lots_start view_magic (length shown) ++ flat_map lot_part l) whole;
        second_words = b.second_words ∙ ap (λ k. lots_start words_magic k ++ flat_map lot_part (take n (map bundle_bytes mapped))) held
            ∙ ap (λ l. lots_start words_magic (length (map bundle_bytes mapped)) ++ flat_map lot_part l)
            (take_all n (map bundle_bytes mapped) (omega (arith, held, all)));
        told = subst (λ (l : List Answer). TellsLots rows l seen.told)
            (take_all n ended (omega (arith, count, lots, many, all))) b.told;
      }
