use Rattle.std.proofs.Common.{◌≡◌, length, arith, ap, ◌∙◌}
use Rattle.std.specs.List.{flat_map}
use Rattle.beet_words.specs.Bundles.{Words, list_bytes, server_bytes, bundle_bytes}
use Rattle.beet_words.proofs.BundleLengths.{length-bundle}
use Rattle.beet_words.proofs.bundle.bundle_length.Goals as goal

pub returns : goal.returns
returns c =
    let seen : Words = record {
      masks = c.words.inside.masks;
      coefficients = c.words.inside.coefficients;
      bidders = c.words.inside.bidders.items;
    } in
    let one : c.server_length-one.result ≡ length (server_bytes seen.masks.one seen.coefficients.one) = c.server_length-one.ensures.value in
    let two : c.server_length-two.result ≡ length (server_bytes seen.masks.two seen.coefficients.two) = c.server_length-two.ensures.value in
    let three : c.server_length-three.result ≡ length (server_bytes seen.masks.three seen.coefficients.three) =
    c.server_length-three.ensures.value in
    let lists : c.lists_length.result ≡ length (flat_map list_bytes seen.bidders) =
    c.lists_length.ensures.value ∙ ap (λ lists. length (flat_map list_bytes lists)) c.as_slice.ensures.value in
    omega (arith, length-bundle seen, one, two, three, lists) ∙ ap (λ (words : Words). length (bundle_bytes words)) c.words.view_is
