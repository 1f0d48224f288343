use Rattle.std.proofs.Common.{◌++◌, ap, ◌∙◌}
use Rattle.beet_words.specs.Bundles.{bundle_bytes, bundle_of}
use Rattle.beet_words.proofs.BundleAgain.{bundle_of-bundle}
use Rattle.beet_words.proofs.bundle.write_bundle.Goals as goal

pub returns-clause-again : goal.returns-clause-again
returns-clause-again c =
    let pushed = c.in_ok-push_bundle.ensures in
    let file = pushed.bytes ∙ ap (λ front. front ++ bundle_bytes c.args.words.now) c.in_ok-file.ensures.items in
    ap bundle_of file ∙ bundle_of-bundle c.args.words.now c.requires pushed.words
