-- What the statements of two of five servers tell apart.
use Rattle.std.proofs.Common.{◌≡◌, ◌++◌, ◌≤◌, ℕ, List, [], take, get_or, refl, ap, subst, sym, ◌∙◌, arith}
use Rattle.std.specs.Int.{w64, from_be_bytes}
use Rattle.std.proofs.lemmas.List.{append_cancel_left, take_at}
use Rattle.std.proofs.lemmas.Nat.{from_be_bytes-to_be_bytes_8}
use Rattle.beet_store.specs.Files.{File}
use Rattle.beet_words.specs.Fields.{number_bytes}
use Rattle.beet_bids.specs.Books.{Book}
use Rattle.beet_errand.specs.Overs.{ReadsTo}
use Rattle.beet_errand.specs.Records.{calls_of}
use Rattle.beet_errand.specs.Worlds.{equal_text, files_of_worlds}
use Rattle.beet_errand.proofs.Records.{all_recorded}
use Rattle.beet_five_dealing.specs.FiveWords.{FiveWords}
use Rattle.beet_five_map.specs.FiveWorlds.{Agree}
use Rattle.beet_five_view.specs.JointBooks.{joint_transcript, view_at}
use Rattle.beet_five_view.specs.JointViews.{FiveView, grid_bytes, magic, round_bytes, view_bytes}
use Rattle.beet_five_view.specs.WordsFiles.{words_bytes}
use Rattle.beet_view.specs.Transcripts.{counted_bytes, seen_bytes}
use Rattle.beet_job_five_worlds.specs.Reading.{BothOfFive, both_errand, second_book}
use Rattle.beet_app_laws.specs.Calls.{Call}
use Rattle.beet_app_laws.proofs.Recorded.{same-given}
use Rattle.beet_app_laws.proofs.Telling.{one-value, told-both-of-five}
use Rattle.beet_program_laws.specs.Commands.{PutsBothWorldsForTwo}
use Rattle.beet_program_laws.specs.Refusals.{RefusesBooksForTwo}

-- two texts that begin with the bytes of a number begin with one number
same-number : (m n : ℕ) (rest rest' : List ℕ) → m ≤ 5 → n ≤ 5 →
    number_bytes m ++ rest ≡ number_bytes n ++ rest' → m ≡ n
same-number m n rest rest' few few' e =
    let bytes : number_bytes m ≡ number_bytes n =
    sym (take_at (number_bytes m) rest 8 refl) ∙ ap (take 8) e ∙ take_at (number_bytes n) rest' 8 refl in
    sym (from_be_bytes-to_be_bytes_8 m (omega (arith, few))) ∙ ap (from_be_bytes w64) bytes
    ∙ from_be_bytes-to_be_bytes_8 n (omega (arith, few'))

-- what stands in a view behind the number of its server
abbrev behind : FiveView → List ℕ
behind view =
    grid_bytes view.grid
    ++ (counted_bytes seen_bytes view.bidders
    ++ (counted_bytes number_bytes view.masks
    ++ (counted_bytes number_bytes view.coefficients
    ++ counted_bytes round_bytes view.rounds)))

-- so two views that begin two texts are of one server
same-server : (one other : FiveView) (rest rest' : List ℕ) → one.server ≤ 5 → other.server ≤ 5 →
    view_bytes one ++ rest ≡ view_bytes other ++ rest' → one.server ≡ other.server
same-server one other rest rest' few few' e =
    same-number one.server other.server (behind one ++ rest) (behind other ++ rest') few few' e

-- a joint transcript tells whose it is
one-pair : (book : Book) (words : FiveWords) (a b c d : ℕ) → a ≤ 5 → b ≤ 5 → c ≤ 5 → d ≤ 5 →
    joint_transcript a b book words ≡ joint_transcript c d book words → (a ≡ c) × (b ≡ d)
one-pair book words a b c d fa fb fc fd e =
    let cut = append_cancel_left magic
    (view_bytes (view_at book words a) ++ view_bytes (view_at book words b))
    (view_bytes (view_at book words c) ++ view_bytes (view_at book words d)) e in
    let lower = same-server (view_at book words a) (view_at book words c) (view_bytes (view_at book words b))
    (view_bytes (view_at book words d)) fa fc cut in
    let higher = append_cancel_left (view_bytes (view_at book words a)) (view_bytes (view_at book words b))
    (view_bytes (view_at book words d))
    (cut ∙ ap (λ (s : ℕ). view_bytes (view_at book words s) ++ view_bytes (view_at book words d)) (sym lower)) in (
      lower,
      same-number b d (behind (view_at book words b)) (behind (view_at book words d)) fb fd higher,
    )

module _ (files : List File) (auction servers book1 book2 out : List ℕ) (call : Call) where
  -- what was put as seen by two of five servers is not what two others see
  pub two-servers : (a b c d : ℕ) → a ≤ 5 → b ≤ 5 → c ≤ 5 → d ≤ 5 →
      PutsBothWorldsForTwo files auction servers book1 book2 a b out call →
      PutsBothWorldsForTwo files auction servers book1 book2 c d out call → (a ≡ c) × (b ≡ d)
  two-servers a b c d fa fb fc fd p q =
      let put : (first second words : List ℕ) → List File = λ first second words. files_of_worlds out first second words in
      let first : List File = put (joint_transcript a b p.both.first.book p.both.first.words)
      (joint_transcript a b (second_book p.both) p.second_words) (words_bytes p.second_words) in
      let other : List File = put (joint_transcript c d q.both.first.book q.both.first.words)
      (joint_transcript c d (second_book q.both) q.second_words) (words_bytes q.second_words) in
      let said = p.text ++ equal_text in
      let said' = q.text ++ equal_text in
      let calls = append_cancel_left call.desk.calls (calls_of first said) (calls_of other said')
      (sym (all_recorded call.desk call.desk_now first said p.gives)
      ∙ all_recorded call.desk call.desk_now other said' q.gives) in
      let same = ap (λ (l : List File). (get_or l 0 ([], [])).1) (same-given first other said said' calls).0 in
      let both : p.both ≡ q.both =
      one-value files (both_errand auction servers book1 book2) p.both q.both p.read q.read told-both-of-five in
      one-pair p.both.first.book p.both.first.words a b c d fa fb fc fd
      (same ∙ ap (λ (x : BothOfFive). joint_transcript c d x.first.book x.first.words) (sym both))

-- two books that were compared are not refused
pub no-refusal : (files : List File) (auction servers book1 book2 out : List ℕ) (a b : ℕ) (both : BothOfFive)
    (call other : Call) → PutsBothWorldsForTwo files auction servers book1 book2 a b out call →
    ReadsTo files (both_errand auction servers book1 book2) both → RefusesBooksForTwo a b both other → ⊥
no-refusal files auction servers book1 book2 out a b both call other done read refused =
    let same : done.both ≡ both =
    one-value files (both_errand auction servers book1 book2) done.both both done.read read told-both-of-five in
    refused.apart (subst (λ (x : BothOfFive). Agree a b x.first.book (second_book x)) same done.two.agree)
