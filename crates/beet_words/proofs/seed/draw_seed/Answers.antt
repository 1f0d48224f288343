use Rattle.std.proofs.Common.{◌≡◌, ◌+◌, ◌++◌, ◌∷◌, [], length, take, arith, ap, sym, ◌∙◌}
use Rattle.std.proofs.lemmas.List.{length-take-le}
use Rattle.beet_words.specs.Seeds.{seed_word}
use Rattle.beet_words.specs.Words.{accepted}
use Rattle.beet_words.proofs.SeedNumbers.{seed_numbers, numbers-more, full-count, full-numbers}
use Rattle.beet_words.proofs.seed.draw_seed.Goals as goal

pub returns-then-have-numbers-clause-count : goal.returns-then-have-numbers-clause-count
returns-then-have-numbers-clause-count c =
    let i = c.loop-k.invariant in
    full-count c.args.seed.now c.args.stream c.loop-k._k c.args.n c.loop-k.have (length c.args.numbers.now) c.loop-k.auto._k-end i.count
    (c.if-have-numbers.true ∙ i.length)

pub returns-then-have-numbers-clause-numbers : goal.returns-then-have-numbers-clause-numbers
returns-then-have-numbers-clause-numbers c =
    let i = c.loop-k.invariant in
    full-numbers c.args.seed.now c.loop-k.numbers c.args.stream c.loop-k._k c.args.n c.loop-k.have c.loop-k.auto._k-end i.count i.numbers

pub loop-k-preserved : goal.loop-k-preserved
loop-k-preserved c =
    let i = c.loop-k.invariant in
    let place = c.next_of_seed.ensures.place in
    let put = c.put-have.ensures in
    let word : c.next_of_seed.result ≡ seed_word c.args.seed.now c.args.stream c.loop-k._k =
    rw (i.key, i.stream, i.place) at c.next_of_seed.ensures.word in
    let numbers : take c.put-have.result c.put-have.new.numbers ≡ seed_numbers c.args.seed.now c.args.stream (c.loop-k._k + 1) =
    put.numbers ∙ ap (λ front. front ++ accepted (c.next_of_seed.result ∷ [])) i.numbers
    ∙ numbers-more c.args.seed.now c.args.stream c.loop-k._k c.next_of_seed.result word in
    record {
      key = ap (λ r. r.key) place ∙ i.key;
      stream = ap (λ r. r.stream) place ∙ i.stream;
      place = omega (arith, ap (λ r. r.word_pos) place, i.place);
      count = sym (length-take-le c.put-have.result c.put-have.new.numbers put.within) ∙ ap (λ l. length l) numbers;
      numbers = numbers;
      room = put.within;
      length = put.length ∙ i.length;
    }
