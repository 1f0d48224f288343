use Rattle.std.proofs.Common.{◌≡◌, ℕ, List, ◌++◌, length, map, append_assoc, sym, ap, ◌∙◌}
use Rattle.std.specs.List.{flat_map}
use Rattle.std.proofs.lemmas.List.{length-map}
use Rattle.std.proofs.lemmas.Result.{on_ok_weaker}
use Rattle.beet_words.specs.Bundles.{list_bytes}
use Rattle.beet_words.specs.Fields.{number_bytes}
use Rattle.beet_gates.proofs.EachFacts.{length-each}
use Rattle.beet_book.specs.Farmers.{farmers_of}
use Rattle.beet_view.specs.Transcripts.{seen_bytes}
use Rattle.beet_view.specs.declared.view.Seen.{Seen}
use Rattle.beet_coalition.specs.Lists.{at_server}
use Rattle.beet_five_dealing.specs.FiveWords.{FiveWords}
use Rattle.beet_five_view.specs.CoreViews.{round_received, rounds_received}
use Rattle.beet_five_view.specs.JointBooks.{seen_at}
use Rattle.beet_five_view.specs.JointViews.{grid_bytes, round_bytes}
use Rattle.beet_five_view.proofs.writing.push_view.Goals as goal
use Rattle.beet_five_dealing.proofs.FiveSums.{length-farmers}

-- texts that were appended one after another
appended : (f a b c d e g h i : List ℕ) → ((((((((f ++ a) ++ b) ++ c) ++ d) ++ e) ++ g) ++ h) ++ i)
    ≡ f ++ (a ++ (b ++ ((c ++ d) ++ (e ++ (g ++ (h ++ i))))))
appended f a b c d e g h i = simp append_assoc

pub returns-clause-bytes : goal.returns-clause-bytes
returns-clause-bytes c =
    let book = c.args.book.now in
    let words = c.args.words.now in
    let core = c.args.core.now in
    let me = core.work.me in
    let front = c.args.file.now.items in
    let farmers = farmers_of book.bidders words.bidders in
    let seen : List Seen = map (seen_at book.grid.prices me) farmers in
    let mine : c.me-me.result ≡ me = c.me-me.ensures.value in
    let count : length c.bidders-bidders.result.now ≡ length seen =
    ap length c.bidders-bidders.ensures.value ∙ sym (length-farmers book.bidders words.bidders c.requires.bidders)
    ∙ sym (length-map farmers (seen_at book.grid.prices me)) in
    let lists : c.deref.result.now ≡ words.bidders = c.deref.ensures.value ∙ ap (λ (w : FiveWords). w.bidders) c.words.view_is in
    let all_masks : c.deref-2.result.now ≡ words.masks = c.deref-2.ensures.value ∙ ap (λ (w : FiveWords). w.masks) c.words.view_is in
    let all_coefficients : c.deref-3.result.now ≡ words.coefficients =
    c.deref-3.ensures.value ∙ ap (λ (w : FiveWords). w.coefficients) c.words.view_is in
    let masks : c.list_of.result.now ≡ at_server words.masks me = c.list_of.ensures ∙ (λ j. at_server (all_masks j) (mine j)) in
    let coefficients : c.list_of-2.result.now ≡ at_server words.coefficients me =
    c.list_of-2.ensures ∙ (λ j. at_server (all_coefficients j) (mine j)) in
    let rounds : c.round.result ≡ length (rounds_received core) =
    c.round.ensures.value ∙ sym (length-each (round_received core) core.work.round) in
    let t1 = front ++ number_bytes me in
    let s1 : c.push_number.new.file.items ≡ t1 = c.in_ok-push_number.ensures ∙ ap (λ n. front ++ number_bytes n) mine in
    let t2 = t1 ++ grid_bytes book.grid in
    let s2 : c.push_grid.new.file.items ≡ t2 = c.in_ok-push_grid.ensures ∙ (λ j. s1 j ++ grid_bytes (c.grid.ensures.value j)) in
    let t3 = t2 ++ number_bytes (length seen) in
    let s3 : c.push_number-2.new.file.items ≡ t3 = c.in_ok-push_number-2.ensures ∙ (λ j. s2 j ++ number_bytes (count j)) in
    let t4 = t3 ++ flat_map seen_bytes seen in
    let s4 : c.push_bidders.new.file.items ≡ t4 =
    c.in_ok-push_bidders.ensures
    ∙ (λ j. s3 j ++ flat_map seen_bytes (map (seen_at book.grid.prices (mine j)) (farmers_of book.bidders (lists j)))) in
    let t5 = t4 ++ list_bytes (at_server words.masks me) in
    let s5 : c.push_list.new.file.items ≡ t5 = c.in_ok-push_list.ensures.bytes ∙ (λ j. s4 j ++ list_bytes (masks j)) in
    let t6 = t5 ++ list_bytes (at_server words.coefficients me) in
    let s6 : c.push_list-2.new.file.items ≡ t6 = c.in_ok-push_list-2.ensures.bytes ∙ (λ j. s5 j ++ list_bytes (coefficients j)) in
    let t7 = t6 ++ number_bytes (length (rounds_received core)) in
    let s7 : c.push_number-3.new.file.items ≡ t7 = c.in_ok-push_number-3.ensures ∙ (λ j. s6 j ++ number_bytes (rounds j)) in
    on_ok_weaker c.push_rounds.result
    (λ last. last ∙ ap (λ l. l ++ flat_map round_bytes (rounds_received core)) s7
    ∙ appended front (number_bytes me) (grid_bytes book.grid) (number_bytes (length seen)) (flat_map seen_bytes seen)
    (list_bytes (at_server words.masks me)) (list_bytes (at_server words.coefficients me))
    (number_bytes (length (rounds_received core))) (flat_map round_bytes (rounds_received core)))
    c.push_rounds.ensures
