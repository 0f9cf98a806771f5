use Rattle.std.proofs.Common.{◌≡◌, ◌++◌}
use Rattle.std.proofs.lemmas.Bool.Decides.{Decides-eqb}
use Rattle.std.proofs.lemmas.Slice.Eq.{strip_prefix_is}
use Rattle.update_text.proofs.Decimals.{no_key, after_key}
use Rattle.update_text.proofs.parse.line.Goals as goal

pub returns-in_err-strip_prefix : goal.returns-in_err-strip_prefix
returns-in_err-strip_prefix c =
    let h = strip_prefix_is Decides-eqb c.args.src.now c.args.key.now c.strip_prefix.result c.strip_prefix.ensures.cases in
    rw c.from_residual.ensures (no_key c.args.key.now c.args.src.now (simp c.in_err-strip_prefix.was at h))

pub returns : goal.returns
returns c =
    let h = strip_prefix_is Decides-eqb c.args.src.now c.args.key.now c.strip_prefix.result c.strip_prefix.ensures.cases in
    let e : c.args.src.now ≡ c.args.key.now ++ c.in_ok-strip_prefix.field-0.now = simp c.in_ok-strip_prefix.was at h in
    after_key c.args.key.now c.args.src.now c.in_ok-strip_prefix.field-0.now c.value.result e c.value.ensures
