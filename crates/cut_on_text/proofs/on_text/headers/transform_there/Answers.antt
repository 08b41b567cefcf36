use Rattle.std.proofs.Common.{IfErr, IfOk, subst}
use Rattle.city_feature.specs.Header.{IsHeader, RefusesHeader}
use Rattle.cut_on_text.proofs.on_text.headers.transform_there.Goals as goal

pub returns : goal.returns
returns c = subst
    (λ v. IfOk c.header_transform.result (λ grid. IsHeader v grid)
    × IfErr c.header_transform.result (λ fault. RefusesHeader fault v))
    c.in_ok-json.ensures (c.header_transform.ensures.ok, c.header_transform.ensures.refusal)
