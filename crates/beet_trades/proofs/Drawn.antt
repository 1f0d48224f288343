-- The numbers that are there to draw, from all words and from those that are read.
use Rattle.std.proofs.Common.{◌≡◌, ◌≤◌, ◌<◌, ℕ, List, ◌++◌, take, drop, length, slice_index, sym, ap, ◌∙◌, arith}
use Rattle.std.proofs.Common.{length-append, take-append-drop}
use Rattle.std.specs.Prelude.{All, ◌==◌, not}
use Rattle.std.proofs.lemmas.List.{get_or_append_left, get_or-take}
use Rattle.std.proofs.lemmas.List.Elements.{filter-append}
use Rattle.beet_field.specs.Trio.{member, of_each}
use Rattle.beet_field.specs.declared.point.Point.{Point}
use Rattle.beet_field.specs.declared.point.Point.TheVariants.{One, Two, Three}
use Rattle.beet_field.specs.declared.trio.Trio.{Trio}
use Rattle.beet_words.specs.Bundles.{Words}
use Rattle.beet_words.specs.Words.{accepted, ones}
use Rattle.beet_gates.specs.Scripts.{HasWords}
use Rattle.beet_sharing.specs.Runs.{numbers_of}
use Rattle.beet_trades.specs.Enough.{HasAccepted, HasEnough, Wants}
use Rattle.beet_masking.specs.Masks.{with_spare}

accepted-split : (n : ℕ) (words : List ℕ) → accepted words ≡ accepted (take n words) ++ accepted (drop n words)
accepted-split n words =
    ap accepted (sym (take-append-drop n words)) ∙ filter-append (λ w. not (w == ones)) (take n words) (drop n words)

-- what the first words hold is there to draw from all
pub drawn-of : (wanted : ℕ) (words : List ℕ) → HasAccepted wanted words → wanted ≤ length (accepted words)
drawn-of wanted words h =
    let n : ℕ = with_spare wanted in
    omega (arith, h, ap length (accepted-split n words), length-append (accepted (take n words)) (accepted (drop n words)))

pub all-drawn : (wanted : ℕ) (lists : List (List ℕ)) → All (HasAccepted wanted) lists → All (λ list. wanted ≤ length (accepted list)) lists
all-drawn wanted lists all k d lt = drawn-of wanted _ (all k d lt)

pub numbers-enough : (wants : Wants) (many : ℕ) (words : Words) → HasEnough wants many words →
    HasWords wants.coefficients (numbers_of words.coefficients)
numbers-enough wants many words e = (
  drawn-of wants.coefficients words.coefficients.one e.one,
  drawn-of wants.coefficients words.coefficients.two e.two,
  drawn-of wants.coefficients words.coefficients.three e.three,
)

-- the words that are read hold the numbers that are wanted
pub accepted-read : (wanted : ℕ) (words : List ℕ) → HasAccepted wanted words → (n : ℕ) → n < wanted →
    slice_index (accepted (take (with_spare wanted) words)) n ≡ slice_index (accepted words) n
accepted-read wanted words h n lt =
    let m : ℕ = with_spare wanted in
    sym (ap (λ l. slice_index l n) (accepted-split m words)
    ∙ get_or_append_left (accepted (take m words)) (accepted (drop m words)) 0 n (omega (arith, h, lt)))

pub masks-read : (m : ℕ) (t : Trio (List ℕ)) (j : Point) (n : ℕ) → n < m →
    slice_index (member (of_each (take m) t) j) n ≡ slice_index (member t j) n
masks-read m t One n lt = get_or-take m t.one n 0 lt
masks-read m t Two n lt = get_or-take m t.two n 0 lt
masks-read m t Three n lt = get_or-take m t.three n 0 lt

pub numbers-read : (wants : Wants) (many : ℕ) (words : Words) → HasEnough wants many words → (j : Point) (n : ℕ) → n < wants.coefficients →
    slice_index (member (numbers_of (of_each (take (with_spare wants.coefficients)) words.coefficients)) j) n
    ≡ slice_index (member (numbers_of words.coefficients) j) n
numbers-read wants many words e One n lt = accepted-read wants.coefficients words.coefficients.one e.one n lt
numbers-read wants many words e Two n lt = accepted-read wants.coefficients words.coefficients.two e.two n lt
numbers-read wants many words e Three n lt = accepted-read wants.coefficients words.coefficients.three e.three n lt
