-- Words are no more than are kept.
use Rattle.std.proofs.Common.{◌≡◌, ◌≤◌, ℕ, zero, suc, ◌+◌, List, [], ◌∷◌, length, take, arith, ap}
use Rattle.std.proofs.lemmas.List.FromFn.{length-map-range_with_len}
use Rattle.beet_words.specs.Bundles.{Words}
use Rattle.beet_words.specs.Seeds.{seed_word, seed_words}
use Rattle.beet_words.specs.Tapes.{Tape}
use Rattle.beet_load.specs.Counts.{Counts}
use Rattle.beet_masking.specs.Masks.{with_spare}
use Rattle.beet_load.specs.Servers.{ServerWords, AreCut, IsCut, cut_server, cut_servers, seeded}
use Rattle.beet_load.specs.Lots.{first_stream}
use Rattle.beet_load.specs.declared.wanted.Wanted.{Wanted}

pub take-few : {A : Type 0} (n : ℕ) (xs : List A) → length (take n xs) ≤ n
take-few zero xs = omega arith
take-few (suc n) [] = omega arith
take-few (suc n) (x ∷ xs) = omega (arith, take-few n xs)

-- the words of a seed
pub seed_cut : (tape : Tape) (seed : List ℕ) (stream kept : ℕ) →
    tape ≡ record { words = seed_words seed stream kept; passed = 0 } → length tape.words ≤ kept
seed_cut tape seed stream kept e =
    let long = ap (λ (t : Tape). length t.words) e in
    omega (arith, long, length-map-range_with_len (seed_word seed stream) 0 kept)

-- the words of a server that are those of a seed
pub seeded_cut : (wanted : Wanted) (seed : List ℕ) (words : ServerWords) → words ≡ seeded wanted seed → IsCut wanted.counts words
seeded_cut wanted seed words e =
    let masks = ap (λ (w : ServerWords). length w.masks) e in
    let coefficients = ap (λ (w : ServerWords). length w.coefficients) e in
    record {
      masks = omega (arith, masks, length-map-range_with_len (seed_word seed (first_stream wanted.lot + 1)) 0 wanted.counts.masks);
      coefficients = omega (
        arith,
        coefficients,
        length-map-range_with_len (seed_word seed (first_stream wanted.lot)) 0 (with_spare wanted.counts.coefficients),
      );
    }

server_cut : (counts : Counts) (masks coefficients : List ℕ) → IsCut counts (cut_server counts masks coefficients)
server_cut counts masks coefficients = record {
  masks = take-few counts.masks masks;
  coefficients = take-few (with_spare counts.coefficients) coefficients;
}

-- the words of the servers in a bundle
pub bundle_cut : (counts : Counts) (words : Words) → AreCut counts (cut_servers counts words)
bundle_cut counts words = record {
  one = server_cut counts words.masks.one words.coefficients.one;
  two = server_cut counts words.masks.two words.coefficients.two;
  three = server_cut counts words.masks.three words.coefficients.three;
}
