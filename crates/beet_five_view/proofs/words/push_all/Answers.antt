use Rattle.std.proofs.Common.{◌≡◌, ℕ, List, [], ◌++◌, length, append_assoc, append-nil, ap, ◌∙◌}
use Rattle.std.specs.List.{flat_map}
use Rattle.std.proofs.lemmas.Result.{on_ok_weaker}
use Rattle.beet_words.specs.Bundles.{list_bytes}
use Rattle.beet_words.specs.Fields.{number_bytes}
use Rattle.beet_five_dealing.specs.FiveWords.{FiveWords}
use Rattle.beet_five_view.specs.WordsFiles.{lists_of, words_magic}
use Rattle.beet_five_view.proofs.words.push_all.Goals as goal

-- texts that were appended one after another
appended : (a b c d e f g h : List ℕ) → (((((((a ++ b) ++ c) ++ d) ++ e) ++ f) ++ g) ++ h)
    ≡ a ++ (b ++ ((c ++ (d ++ (e ++ (f ++ (g ++ []))))) ++ h))
appended a b c d e f g h = simp (append_assoc, append-nil)

pub returns : goal.returns
returns c =
    let words = c.args.words.now in
    let lists : c.as_slice-bidders.result.now ≡ words.bidders =
    c.as_slice-bidders.ensures.value ∙ ap (λ (w : FiveWords). w.bidders) c.words.view_is in
    let count : length c.as_slice-bidders.result.now ≡ length words.bidders = ap length lists in
    let t0 = words_magic in
    let s0 : c.extend_from_slice.new.self.items ≡ t0 =
    c.in_ok-extend_from_slice.ensures.items ∙ ap (λ l. l ++ words_magic) c.requires.file in
    let t1 = t0 ++ number_bytes (length words.bidders) in
    let s1 : c.push_number.new.file.items ≡ t1 = c.in_ok-push_number.ensures ∙ (λ j. s0 j ++ number_bytes (count j)) in
    let t2 = t1 ++ lists_of words 1 in
    let s2 : c.push_lists_of.new.file.items ≡ t2 = c.in_ok-push_lists_of.ensures ∙ ap (λ l. l ++ lists_of words 1) s1 in
    let t3 = t2 ++ lists_of words 2 in
    let s3 : c.push_lists_of-2.new.file.items ≡ t3 = c.in_ok-push_lists_of-2.ensures ∙ ap (λ l. l ++ lists_of words 2) s2 in
    let t4 = t3 ++ lists_of words 3 in
    let s4 : c.push_lists_of-3.new.file.items ≡ t4 = c.in_ok-push_lists_of-3.ensures ∙ ap (λ l. l ++ lists_of words 3) s3 in
    let t5 = t4 ++ lists_of words 4 in
    let s5 : c.push_lists_of-4.new.file.items ≡ t5 = c.in_ok-push_lists_of-4.ensures ∙ ap (λ l. l ++ lists_of words 4) s4 in
    let t6 = t5 ++ lists_of words 5 in
    let s6 : c.push_lists_of-5.new.file.items ≡ t6 = c.in_ok-push_lists_of-5.ensures ∙ ap (λ l. l ++ lists_of words 5) s5 in
    on_ok_weaker c.push_bidders.result
    (λ last. last ∙ (λ j. s6 j ++ flat_map list_bytes (lists j))
    ∙ appended words_magic (number_bytes (length words.bidders)) (lists_of words 1) (lists_of words 2) (lists_of words 3)
    (lists_of words 4) (lists_of words 5) (flat_map list_bytes words.bidders))
    c.push_bidders.ensures
