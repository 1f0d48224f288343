use Rattle.std.proofs.Common.{◌≡◌, ap, ◌∙◌, arith, refl}
use Rattle.std.proofs.lemmas.List.FromFn.{map-range_with_len_more}
use Rattle.beet_words.specs.Seeds.{seed_word}
use Rattle.beet_words.proofs.seed.words_of_seed.Goals as goal

pub loop-k-preserved : goal.loop-k-preserved
loop-k-preserved c =
    let i = c.loop-k.invariant in
    let place = c.next_of_seed.ensures.place in
    let word : c.next_of_seed.result ≡ seed_word c.args.seed.now c.args.stream c.loop-k._k =
    rw (i.key, i.stream, i.place) at c.next_of_seed.ensures.word in
    let more = map-range_with_len_more (seed_word c.args.seed.now c.args.stream) 0 c.loop-k._k c.loop-k._k (omega arith) in
    record {
      key = ap (λ r. r.key) place ∙ i.key;
      stream = ap (λ r. r.stream) place ∙ i.stream;
      place = omega (arith, ap (λ r. r.word_pos) place);
      words = rw (c.in_ok-push.ensures, i.words, word, more) refl;
    }
