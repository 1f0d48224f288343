use Rattle.std.proofs.Common.{◌≡◌, ◌<◌, ◌+◌, ◌∷◌, ◌++◌, ℕ, List, drop, length, sym, ap, ◌∙◌, arith, add-one, append-nil}
use Rattle.std.proofs.Math.Seq.{drop-cons}
use Rattle.std.proofs.lemmas.List.{drop_all}
use Rattle.beet_words.specs.Words.{accepted}
use Rattle.beet_words.proofs.WordLists.{accepted_more, words_all, words_more}
use Rattle.beet_words.proofs.accepted.numbers_in.Goals as goal

pub loop-word-preserved : goal.loop-word-preserved
loop-word-preserved c =
    let words : List ℕ = c.args.words.now in
    let i : ℕ = c.loop-word.word-index in
    let word : ℕ = c.word-item.result in
    let lt : i < length words = omega arith in
    let behind : drop i words ≡ word ∷ drop (i + 1) words =
    rw add-one (drop-cons words i word lt) ∙ (λ j. sym c.word-item.is j ∷ drop (i + 1) words) in
    record {
      rest = accepted_more words c.loop-word.numbers.items _ i word behind c.loop-word.invariant.rest c.in_ok-keep.ensures.kept;
      below = words_more words i word lt c.word-item.is c.keep.ensures.below c.loop-word.invariant.below;
    }

pub returns-clause-numbers : goal.returns-clause-numbers
returns-clause-numbers c =
    let none = drop_all c.loop-word.word-index c.args.words.now (omega arith) in
    sym (append-nil c.loop-word.numbers.items) ∙ ap (λ (l : List ℕ). c.loop-word.numbers.items ++ accepted l) (sym none)
    ∙ c.loop-word.invariant.rest

pub returns-clause-below : goal.returns-clause-below
returns-clause-below c = words_all c.args.words.now c.loop-word.word-index (omega arith) c.loop-word.invariant.below
