use Rattle.std.proofs.Common.{◌≡◌, ◌≢◌, ◌<◌, ◌+◌, ℕ, List, [], ◌∷◌, ◌++◌, length, take, drop, sym, subst, ap, ◌∙◌, arith, add-one}
use Rattle.std.proofs.Math.Seq.{drop-cons}
use Rattle.std.proofs.lemmas.List.{drop_all, take_all, take_more}
use Rattle.beet_words.specs.Words.{accepted, ones, ones_in}
use Rattle.beet_words.proofs.WordLists.{Back, back_ones, back_number, has_room}
use Rattle.beet_words.proofs.accepted.put_back.Goals.{then-is_ones, else-is_ones}
use Rattle.beet_words.proofs.accepted.put_back.Goals as goal

pub loop-word-preserved : goal.loop-word-preserved
loop-word-preserved c =
    let words : List ℕ = c.args.words.now in
    let numbers : List ℕ = c.args.numbers.now in
    let out : List ℕ = c.loop-word.back in
    let i : ℕ = c.loop-word.word-index in
    let place : ℕ = c.loop-word.place in
    let word : ℕ = c.word-item.result in
    let lt : i < length words = omega arith in
    let behind : drop i words ≡ word ∷ drop (i + 1) words =
    rw add-one (drop-cons words i word lt) ∙ (λ j. sym c.word-item.is j ∷ drop (i + 1) words) in
    let front : take (i + 1) words ≡ take i words ++ word ∷ [] =
    take_more words i word lt ∙ (λ j. take i words ++ sym c.word-item.is j ∷ []) in
    elim c.if-is_ones.branch [
      | else-is_ones w ↦
          let x : ℕ = w.word_of-put.result in
          let other : word ≢ ones = λ e. let h = c.is_ones.ensures.1 e in let k = w.if-is_ones.false in cc in
          let low : place < length numbers = has_room words numbers out i place c.loop-word.invariant word behind front other in
          let more : take (place + 1) numbers ≡ take place numbers ++ x ∷ [] =
          take_more numbers place w.index-numbers-place.result low
          ∙ (λ j. take place numbers ++ sym (w.word_of-put.ensures.value ∙ w.index-numbers-place.is) j ∷ []) in
          subst (λ o. Back words numbers o (i + 1) c.if-is_ones.place) (sym (c.in_ok-push.ensures ∙ (λ j. out ++ w.put-is j ∷ [])))
          (subst (λ p. Back words numbers (out ++ x ∷ []) (i + 1) p) (sym w.place-is)
          (back_number words numbers out i place c.loop-word.invariant word behind front other x
          (λ e. let s = w.word_of-put.ensures.below in absurd (omega arith)) more))
      | then-is_ones w ↦
          subst (λ o. Back words numbers o (i + 1) c.if-is_ones.place) (sym (c.in_ok-push.ensures ∙ (λ j. out ++ w.put-is j ∷ [])))
          (subst (λ p. Back words numbers (out ++ word ∷ []) (i + 1) p) (sym w.place-is)
          (back_ones words numbers out i place c.loop-word.invariant word behind front (c.is_ones.ensures.0 w.if-is_ones.true)))
    ]

pub returns-clause-numbers : goal.returns-clause-numbers
returns-clause-numbers c =
    let inv = c.loop-word.invariant in
    let numbers = c.args.numbers.now in
    let none = drop_all c.loop-word.word-index c.args.words.now (omega arith) in
    let left = subst (λ (l : List ℕ). c.loop-word.place + length (accepted l) ≡ length numbers) none inv.left in
    inv.taken ∙ take_all c.loop-word.place numbers (omega (arith, left))

pub returns-clause-places : goal.returns-clause-places
returns-clause-places c = c.loop-word.invariant.flags ∙ ap ones_in (take_all c.loop-word.word-index c.args.words.now (omega arith))
