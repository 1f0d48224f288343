use Rattle.std.proofs.Common.{◌≡◌, ℕ, List, ◌++◌, length, OnOk, subst, ◌∙◌, append_assoc}
use Rattle.std.specs.List.{flat_map}
use Rattle.std.proofs.lemmas.Result.{on_ok_weaker}
use Rattle.beet_words.specs.Fields.{number_bytes}
use Rattle.beet_words.specs.Bundles.{Words, AreWords, magic, list_bytes, server_bytes, bundle_bytes}
use Rattle.beet_words.proofs.bundle.push_bundle.Goals as goal

-- texts that were appended one after another
appended : (a b c d e f g : List ℕ) → (((((a ++ b) ++ c) ++ d) ++ e) ++ f) ++ g ≡ a ++ (b ++ (c ++ (d ++ (e ++ (f ++ g)))))
appended a b c d e f g = simp append_assoc

pub returns-clause-bytes : goal.returns-clause-bytes
returns-clause-bytes c =
    let file = c.args.file.now.items in
    let seen : Words = record {
      masks = c.words.inside.masks;
      coefficients = c.words.inside.coefficients;
      bidders = c.words.inside.bidders.items;
    } in
    let whole : c.push_server-3.new.file.items ++ flat_map list_bytes c.as_slice-bidders.result.now ≡ file ++ bundle_bytes seen =
    rw (
      c.in_ok-push_server-3.ensures.bytes,
      c.in_ok-push_server-2.ensures.bytes,
      c.in_ok-push_server.ensures.bytes,
      c.in_ok-push_number.ensures,
      c.in_ok-extend_from_slice.ensures.items,
      c.as_slice-bidders.ensures.value,
    )
    (appended file magic (number_bytes (length seen.bidders)) (server_bytes seen.masks.one seen.coefficients.one)
    (server_bytes seen.masks.two seen.coefficients.two) (server_bytes seen.masks.three seen.coefficients.three)
    (flat_map list_bytes seen.bidders)) in
    let pushed = on_ok_weaker c.push_lists.result (λ last. last ∙ whole) c.push_lists.ensures.bytes in
    subst (λ (words : Words). OnOk c.push_lists.result (c.push_lists.new.file.items ≡ file ++ bundle_bytes words)) c.words.view_is pushed

pub returns-clause-words : goal.returns-clause-words
returns-clause-words c =
    let one = c.in_ok-push_server.ensures in
    let two = c.in_ok-push_server-2.ensures in
    let three = c.in_ok-push_server-3.ensures in
    let seen : Words = record {
      masks = c.words.inside.masks;
      coefficients = c.words.inside.coefficients;
      bidders = c.words.inside.bidders.items;
    } in
    let are : OnOk c.push_lists.result (AreWords seen) =
    on_ok_weaker c.push_lists.result (λ bidders. record {
      masks = (one.masks, two.masks, three.masks);
      coefficients = (one.coefficients, two.coefficients, three.coefficients);
      bidders = bidders;
    })
    (rw c.as_slice-bidders.ensures.value at c.push_lists.ensures.words) in
    subst (λ (words : Words). OnOk c.push_lists.result (AreWords words)) c.words.view_is are
