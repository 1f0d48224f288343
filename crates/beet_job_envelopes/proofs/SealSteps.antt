-- Sealing the bid of a farmer, step by step.
use Rattle.std.proofs.Common.{◌≡◌, ℕ, List, [], ◌∷◌, drop, ◌∙◌, ap}
use Rattle.beet_field.specs.declared.point.Point.{Point}
use Rattle.beet_field.specs.declared.point.Point.TheVariants.{One, Two, Three}
use Rattle.beet_field.specs.declared.trio.Trio.{Trio}
use Rattle.beet_store.specs.Files.{File}
use Rattle.beet_words.specs.Words.{accepted}
use Rattle.beet_words.specs.Tapes.{Tape}
use Rattle.beet_bids.specs.Curves.{Curve}
use Rattle.beet_bids.specs.Grids.{Grid}
use Rattle.beet_book.specs.Dealing.{DealsBidder, dealt_points}
use Rattle.beet_farmer.specs.declared.envelope.Envelope.{Envelope}
use Rattle.beet_farmer.specs.Envelopes.{envelope_bytes}
use Rattle.beet_farmer.specs.Sealing.{AreAddressed, points_in}
use Rattle.beet_errand.specs.Errands.{file_for}
use Rattle.beet_errand.specs.declared.answer.Status.TheVariants.{Done}
use Rattle.beet_job_envelopes.specs.Seal.{sealed_text, sealed_files, sealed_answer}

abbrev file_of : Grid → List ℕ → Envelope → File
file_of grid out envelope = (file_for out envelope.server, envelope_bytes grid envelope)

same-envelope : (envelope : Envelope) (s : Point) (points : List ℕ) → envelope.server ≡ s → envelope.points ≡ points →
    envelope ≡ record { server = s; points = points }
same-envelope envelope s points h i = λ j. record { server = h j; points = i j }

same-points : (curve : Curve) (tape after : Tape) (dealt : Trio (List ℕ)) → tape.passed ≡ 0 → DealsBidder curve tape after dealt →
    dealt ≡ dealt_points curve (accepted tape.words)
same-points curve tape after dealt fresh deals =
    deals.points ∙ ap (λ n. dealt_points curve (accepted (drop n tape.words))) fresh

-- the envelopes of a curve that was dealt, as files
pub files-sealed : (grid : Grid) (out : List ℕ) (curve : Curve) (tape after : Tape) (envelopes : Trio Envelope) →
    tape.passed ≡ 0 → AreAddressed envelopes → DealsBidder curve tape after (points_in envelopes) →
    file_of grid out envelopes.one ∷ file_of grid out envelopes.two ∷ file_of grid out envelopes.three ∷ []
    ≡ sealed_files grid out curve tape.words
files-sealed grid out curve tape after envelopes fresh to deals =
    let same = same-points curve tape after (points_in envelopes) fresh deals in
    let one = same-envelope envelopes.one One _ to.one (ap (λ (t : Trio (List ℕ)). t.one) same) in
    let two = same-envelope envelopes.two Two _ to.two (ap (λ (t : Trio (List ℕ)). t.two) same) in
    let three = same-envelope envelopes.three Three _ to.three (ap (λ (t : Trio (List ℕ)). t.three) same) in
    λ j. file_of grid out (one j) ∷ file_of grid out (two j) ∷ file_of grid out (three j) ∷ []

-- the answer has these files and this text
pub answer-sealed : (grid : Grid) (out : List ℕ) (curve : Curve) (words : List ℕ) (files : List File) (text : List ℕ) (prices : ℕ) →
    files ≡ sealed_files grid out curve words → text ≡ sealed_text prices → prices ≡ grid.prices →
    record { status = Done; files = files; text = text } ≡ sealed_answer grid out curve words
answer-sealed grid out curve words files text prices e h i =
    let told : text ≡ sealed_text grid.prices = h ∙ ap sealed_text i in
    λ j. record { status = Done; files = e j; text = told j }
