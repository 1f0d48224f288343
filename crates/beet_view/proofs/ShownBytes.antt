-- The bytes of bidders, and how many bidders they stand for.
use Rattle.std.proofs.Common.{◌≡◌, ℕ, ◌+◌, ◌-◌, ◌≤◌, List, [], ◌∷◌, ◌++◌, length, take, drop, arith, ap, ◌∙◌, refl}
use Rattle.std.specs.List.{flat_map}
use Rattle.std.proofs.Math.Seq.{take-append_seam, drop-append_seam}
use Rattle.std.proofs.lemmas.List.{length-append}
use Rattle.beet_words.specs.Fields.{number_bytes}
use Rattle.beet_view.specs.declared.view.Seen.{Seen}
use Rattle.beet_view.specs.Transcripts.{mark_of, numbers_bytes, sealed_bytes, own_bytes, seen_bytes}

-- a bidder has more than one byte
some-bytes : (seen : Seen) → 1 ≤ length (seen_bytes seen)
some-bytes seen =
    omega (
      arith,
      length-append (sealed_bytes seen.known seen.points) (own_bytes seen.own),
      length-append (number_bytes (mark_of seen.known)) (numbers_bytes seen.points),
    )

-- bidders are no more than their bytes
few-shown : (bidders : List Seen) → length bidders ≤ length (flat_map seen_bytes bidders)
few-shown [] = omega arith
few-shown (seen ∷ others) =
    omega (arith, some-bytes seen, few-shown others, length-append (seen_bytes seen) (flat_map seen_bytes others))

-- one bidder more has its bytes
pub one-more : (bidders : List Seen) (seen : Seen) (bytes file : List ℕ) → bytes ≡ flat_map seen_bytes bidders →
    file ≡ bytes ++ seen_bytes seen →
    length bidders + 1 ≤ length file
one-more bidders seen bytes file are is =
    omega (
      arith,
      few-shown bidders,
      some-bytes seen,
      ap length are,
      ap length is ∙ length-append bytes (seen_bytes seen),
    )

-- so have those of others
pub others-more : (bidders others : List Seen) (bytes more file : List ℕ) → bytes ≡ flat_map seen_bytes bidders →
    more ≡ flat_map seen_bytes others → file ≡ bytes ++ more →
    length bidders + length others ≤ length file
others-more bidders others bytes more file are rest is =
    omega (
      arith,
      few-shown bidders,
      few-shown others,
      ap length are,
      ap length rest,
      ap length is ∙ length-append bytes more,
    )

-- what was appended to a text is turned to its front
pub turned : (text front file turned : List ℕ) (before after total : ℕ) → file ≡ text ++ front →
    before ≡ length text → after ≡ length file → total ≡ length file →
    turned ≡ drop (total - (after - before)) file ++ take (total - (after - before)) file →
    turned ≡ front ++ text
turned text front file new before after total is begins ends all turns =
    let whole : length file ≡ length text + length front = ap length is ∙ length-append text front in
    let place : total - (after - before) ≡ length text = omega (arith, whole, begins, ends, all) in
    turns
    ∙ ap (λ n. drop n file ++ take n file) place
    ∙ ap (λ l. drop (length text) l ++ take (length text) l) is
    ∙ rw (drop-append_seam text front, take-append_seam text front) refl
