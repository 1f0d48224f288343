-- What the statements of commands tell apart.
use Rattle.std.proofs.Common.{◌≡◌, ◌≢◌, ◌++◌, ℕ, List, [], ◌∷◌, get_or, refl, ap, sym, ◌∙◌, arith}
use Rattle.std.proofs.lemmas.List.{append_cancel_left}
use Rattle.beet_field.specs.declared.point.Point.{Point}
use Rattle.beet_field.specs.declared.point.Point.TheVariants.{One, Two, Three}
use Rattle.beet_field.specs.declared.trio.Trio.{Trio}
use Rattle.beet_field.specs.Point.{number_of}
use Rattle.beet_field.specs.Trio.{trio_of}
use Rattle.beet_store.specs.Files.{File}
use Rattle.beet_words.specs.Bundles.{Words}
use Rattle.beet_words.specs.Fields.{number_bytes}
use Rattle.beet_sharing.proofs.Lined.{member-trio}
use Rattle.beet_view.specs.Transcripts.{counted_bytes, grid_bytes, magic, run_bytes, seen_bytes, tells_policy}
use Rattle.beet_view.specs.Views.{Viewed, run_in}
use Rattle.beet_auction_map.specs.ViewsWith.{transcript_with, view_with}
use Rattle.beet_bids.specs.AuctionFiles.{auction_of}
use Rattle.beet_bids.specs.Books.{Book}
use Rattle.beet_bids.specs.Grids.{Grid}
use Rattle.beet_bids.specs.declared.auction_file.TheConstants.{AUCTION_LIMIT}
use Rattle.beet_errand.specs.Errands.{Answer, answers, file_for, reads}
use Rattle.beet_errand.specs.Overs.{ReadsTo}
use Rattle.beet_errand.specs.Records.{calls_of}
use Rattle.beet_errand.specs.declared.answer.Refusal.TheVariants.{ReadFault}
use Rattle.beet_errand.specs.declared.answer.Status.TheVariants.{Done, Refused}
use Rattle.beet_errand.proofs.Records.{all_recorded}
use Rattle.beet_app_laws.proofs.Recorded.{same-given}
use Rattle.beet_app_laws.specs.Calls.{Call}
use Rattle.beet_program_laws.specs.Again.{PutsFor}
use Rattle.beet_program_laws.specs.Commands.{RecordsRun, Seals, Tallies}

-- no grid is read of no files
no-grid : (auction : List ℕ) (grid : Grid) → ReadsTo [] (reads auction AUCTION_LIMIT auction_of) grid → ⊥
no-grid auction grid read =
    let same : Refused ReadFault ≡ Done = ap (λ (x : Answer). x.status) (read (λ grid. answers Done [])) in
    cc

pub no-tally : (auction book : List ℕ) (call : Call) → Tallies [] auction book call → ⊥
no-tally auction book call t = no-grid auction t.read.grid.value t.read.grid.is

pub no-seal : (auction bid source out : List ℕ) (call : Call) → Seals [] auction bid source out call → ⊥
no-seal auction bid source out call t = no-grid auction t.read.grid.value t.read.grid.is

module _ (out : List ℕ) (call : Call) where
  abbrev files_of : Trio (List ℕ) → List File
  files_of t = (file_for out One, t.one) ∷ (file_for out Two, t.two) ∷ (file_for out Three, t.three) ∷ []

  -- a record of calls tells the files
  same-files : (s : Point) (seen other : List ℕ) (p : PutsFor s seen out call) (q : PutsFor s other out call) →
      files_of p.transcripts ≡ files_of q.transcripts
  same-files s seen other p q =
      let a = all_recorded call.desk call.desk_now (files_of p.transcripts) p.text p.gives in
      let b = all_recorded call.desk call.desk_now (files_of q.transcripts) q.text q.gives in
      let calls = append_cancel_left call.desk.calls (calls_of (files_of p.transcripts) p.text)
      (calls_of (files_of q.transcripts) q.text) (sym a ∙ b) in
      (same-given (files_of p.transcripts) (files_of q.transcripts) p.text q.text calls).0

  same-one : (t u : Trio (List ℕ)) → files_of t ≡ files_of u → t.one ≡ u.one
  same-one t u e = ap (λ (l : List File). (get_or l 0 ([], [])).1) e

  same-two : (t u : Trio (List ℕ)) → files_of t ≡ files_of u → t.two ≡ u.two
  same-two t u e = ap (λ (l : List File). (get_or l 1 ([], [])).1) e

  same-three : (t u : Trio (List ℕ)) → files_of t ≡ files_of u → t.three ≡ u.three
  same-three t u e = ap (λ (l : List File). (get_or l 2 ([], [])).1) e

  pub one-transcript : (s : Point) (seen other : List ℕ) → PutsFor s seen out call → PutsFor s other out call →
      seen ≡ other
  one-transcript One seen other p q =
      sym p.own ∙ same-one p.transcripts q.transcripts (same-files One seen other p q) ∙ q.own
  one-transcript Two seen other p q =
      sym p.own ∙ same-two p.transcripts q.transcripts (same-files Two seen other p q) ∙ q.own
  one-transcript Three seen other p q =
      sym p.own ∙ same-three p.transcripts q.transcripts (same-files Three seen other p q) ∙ q.own

-- ---- exchanged transcripts

-- the number of its server, behind the front of a transcript
last-byte : (s : Point) (rest : List ℕ) → get_or (number_bytes (number_of s) ++ rest) 7 0 ≡ number_of s
last-byte One rest = refl
last-byte Two rest = refl
last-byte Three rest = refl

other-number : (s t : Point) → s ≢ t → number_of s ≡ number_of t → ⊥
other-number One One ne e = ne refl
other-number One Two ne e = absurd (omega (arith, e))
other-number One Three ne e = absurd (omega (arith, e))
other-number Two One ne e = absurd (omega (arith, e))
other-number Two Two ne e = ne refl
other-number Two Three ne e = absurd (omega (arith, e))
other-number Three One ne e = absurd (omega (arith, e))
other-number Three Two ne e = absurd (omega (arith, e))
other-number Three Three ne e = ne refl

-- two files with one front that go on with the numbers of servers
same-number : (front rest rest' : List ℕ) (s t : Point) →
    front ++ (number_bytes (number_of s) ++ rest) ≡ front ++ (number_bytes (number_of t) ++ rest') →
    number_of s ≡ number_of t
same-number front rest rest' s t e =
    let same = append_cancel_left front (number_bytes (number_of s) ++ rest) (number_bytes (number_of t) ++ rest') e in
    sym (last-byte s rest) ∙ ap (λ (l : List ℕ). get_or l 7 0) same ∙ last-byte t rest'

-- what stands behind that number
abbrev rest_of : Viewed → List ℕ
rest_of view = grid_bytes view.grid ++ (counted_bytes seen_bytes view.bidders ++ run_bytes (run_in view))

-- a transcript is of one server
one-server : (book : Book) (words : Words) (s t : Point) →
    transcript_with book words s ≡ transcript_with book words t → number_of s ≡ number_of t
one-server book words s t e =
    same-number (magic (tells_policy book.grid.policy)) (rest_of (view_with book words s))
    (rest_of (view_with book words t)) s t e

-- what a recording has put for a server
puts-own : (files : List File) (auction servers list out : List ℕ) (call : Call)
    (r : RecordsRun files auction servers list out call) (s : Point) →
    PutsFor s (transcript_with r.book r.words s) out call
puts-own files auction servers list out call r s = record {
  transcripts = trio_of (transcript_with r.book r.words);
  own = member-trio (transcript_with r.book r.words) s;
  text = r.text;
  gives = r.gives;
}

pub no-exchange : (files : List File) (auction servers list out : List ℕ) (call : Call)
    (r : RecordsRun files auction servers list out call) (s t : Point) → s ≢ t →
    PutsFor s (transcript_with r.book r.words t) out call → ⊥
no-exchange files auction servers list out call r s t ne p =
    other-number s t ne (one-server r.book r.words s t
    (one-transcript out call s (transcript_with r.book r.words s) (transcript_with r.book r.words t)
    (puts-own files auction servers list out call r s) p))
