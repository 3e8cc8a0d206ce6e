use Rattle.std.proofs.Common.{◌≡◌, ◌∙◌, ap, subst, sym, IfOk}
use Rattle.ps_text.specs.declared.version.Version.{Version}
use Rattle.ps_problem.specs.Written.{items_from}
use Rattle.ps_canonical.specs.Lines.{version_from, text_in}
use Rattle.ps_canonical.proofs.Laid.{same-version}
use Rattle.ps_canonical.proofs.writing.canonical_text.Goals as goal

pub returns : goal.returns
returns c =
    let p = c.args.problem.now in
    subst (λ (v : Version). IfOk c.text_in.result (λ x. x.items ≡ text_in v (items_from p)))
    (c.version.ensures ∙ ap version_from (c.as_slice.ensures ∙ c.sentences.ensures.sentences) ∙ sym (same-version p p.sentences p.queries))
    c.text_in.ensures
