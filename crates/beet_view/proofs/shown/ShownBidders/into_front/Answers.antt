use Rattle.std.proofs.Common.{◌≡◌, List, ◌++◌, ap, length, vec_len, arith, ◌∙◌}
use Rattle.std.specs.List.{flat_map}
use Rattle.beet_view.specs.declared.view.Seen.{Seen}
use Rattle.beet_view.specs.Transcripts.{header_bytes, seen_bytes}
use Rattle.beet_view.proofs.ShownBytes.{turned}
use Rattle.beet_view.proofs.shown.ShownBidders.into_front.Goals as goal

pub returns : goal.returns
returns c =
    let bytes = c.self.inside.bytes.items in
    let header = header_bytes c.args.server c.args.grid.now in
    let file =
    c.in_ok-push_header.ensures.bytes
    ∙ ap (λ l. l ++ header c.self.inside.count) c.in_ok-reserve_exact.ensures.items in
    let begins : c.len-bidders.result ≡ length bytes = omega (arith, c.len-bidders.ensures) in
    let ends : c.len.result ≡ length c.push_header.new.file.items = omega (arith, c.len.ensures) in
    let all : vec_len c.push_header.new.file ≡ length c.push_header.new.file.items = omega arith in
    turned bytes (header c.self.inside.count) _ _ _ _ _ file begins ends all c.rotate_right.ensures.items
    ∙ ap (λ n. header n ++ bytes) c.self.invariant.1
    ∙ ap (λ l. header (length c.self.inside.listed.bidders) ++ l) c.self.invariant.0
    ∙ ap (λ (l : List Seen). header (length l) ++ flat_map seen_bytes l) c.self.view_is
