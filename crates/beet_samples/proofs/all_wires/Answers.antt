use Rattle.std.proofs.Common.{◌+◌, ◌++◌, [], ◌∷◌, length, ap, sym, ◌∙◌, arith}
use Rattle.std.proofs.lemmas.List.{length_push}
use Rattle.std.proofs.lemmas.List.FromFn.{map-range_with_len_more}
use Rattle.beet_samples.proofs.all_wires.Goals as goal

pub loop-k-preserved : goal.loop-k-preserved
loop-k-preserved c =
    let k = c.loop-k.k in
    record {
      so_far = c.push.ensures.items ∙ ap (λ l. l ++ k ∷ []) c.loop-k.invariant.so_far
          ∙ sym (map-range_with_len_more (λ k. k) 0 k k (omega arith));
      count = ap length c.push.ensures.items ∙ length_push c.loop-k.wires.items k ∙ ap (λ n. n + 1) c.loop-k.invariant.count;
    }
