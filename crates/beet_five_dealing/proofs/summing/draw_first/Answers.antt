use Rattle.std.proofs.Common.{◌≡◌, ◌<◌, ◌+◌, ◌∷◌, ◌++◌, [], ℕ, List, drop, length, sym, ◌∙◌, arith, add-one, rules, take}
use Rattle.std.proofs.Math.Seq.{drop-cons}
use Rattle.std.proofs.lemmas.List.{drop_all}
use Rattle.beet_words.specs.Words.{accepted}
use Rattle.beet_words.proofs.WordLists.{accepted_more}
use Rattle.beet_five_dealing.proofs.FiveSums.{all-drawn, enough-drawn}
use Rattle.beet_five_dealing.proofs.summing.draw_first.Goals as goal

pub loop-word-preserved : goal.loop-word-preserved
loop-word-preserved c =
    let words : List ℕ = c.args.words.now in
    let i : ℕ = c.loop-word.word-index in
    let word : ℕ = c.word-item.result in
    let lt : i < length words = omega arith in
    let behind : drop i words ≡ word ∷ drop (i + 1) words =
    rw add-one (drop-cons words i word lt) ∙ (λ j. sym c.word-item.is j ∷ drop (i + 1) words) in
    let inv = c.loop-word.invariant in
    record {
      count = c.put_number-place.ensures.count ∙ inv.count;
      within = c.put_number-place.ensures.within;
      drawn = accepted_more words (take c.loop-word.place c.loop-word.numbers.items) _ i word behind inv.drawn
          c.put_number-place.ensures.front;
    }

pub returns-then-place-len : goal.returns-then-place-len
returns-then-place-len c =
    let inv = c.loop-word.invariant in
    all-drawn c.loop-word.numbers.items c.args.words.now (accepted (drop c.loop-word.word-index c.args.words.now)) c.loop-word.place
    (length c.args.numbers.now.items) inv.count (search rules) inv.drawn

pub returns : goal.returns
returns c =
    let inv = c.loop-word.invariant in
    let none = drop_all c.loop-word.word-index c.args.words.now (omega arith) in
    let whole : take c.loop-word.place c.loop-word.numbers.items ++ [] ≡ accepted c.args.words.now =
    (λ i. take c.loop-word.place c.loop-word.numbers.items ++ accepted (sym none i)) ∙ inv.drawn in
    all-drawn c.loop-word.numbers.items c.args.words.now [] c.loop-word.place (length c.args.numbers.now.items) inv.count
    (enough-drawn c.loop-word.numbers.items c.args.words.now c.loop-word.place (length c.args.numbers.now.items) inv.within whole
    c.requires)
    whole
