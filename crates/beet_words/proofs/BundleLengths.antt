-- How many bytes the parts of a bundle take.
use Rattle.std.proofs.Common.{◌≡◌, ℕ, ◌+◌, ◌*◌, List, ◌++◌, length, arith}
use Rattle.std.specs.List.{flat_map}
use Rattle.std.proofs.lemmas.List.{length-append}
use Rattle.beet_words.specs.Fields.{number_bytes}
use Rattle.beet_words.specs.Bundles.{Words, magic, list_bytes, server_bytes, bundle_bytes}
use Rattle.beet_words.proofs.FieldsAgain.{length-numbers}

pub length-list : (words : List ℕ) → length (list_bytes words) ≡ 8 * (1 + length words)
length-list words =
    omega (arith, length-append (number_bytes (length words)) (flat_map number_bytes words), length-numbers words)

pub length-bundle : (words : Words) →
    length (bundle_bytes words)
    ≡ 16 + length (server_bytes words.masks.one words.coefficients.one) + length (server_bytes words.masks.two words.coefficients.two)
    + length (server_bytes words.masks.three words.coefficients.three) + length (flat_map list_bytes words.bidders)
length-bundle words =
    let lists = flat_map list_bytes words.bidders in
    let one = server_bytes words.masks.one words.coefficients.one in
    let two = server_bytes words.masks.two words.coefficients.two in
    let three = server_bytes words.masks.three words.coefficients.three in
    omega (
      arith,
      length-append magic (number_bytes (length words.bidders) ++ (one ++ (two ++ (three ++ lists)))),
      length-append (number_bytes (length words.bidders)) (one ++ (two ++ (three ++ lists))),
      length-append one (two ++ (three ++ lists)),
      length-append two (three ++ lists),
      length-append three lists,
    )
