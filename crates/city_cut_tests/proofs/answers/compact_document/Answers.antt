use Rattle.std.proofs.Common.{◌∙◌, subst, sym}
use Rattle.city_json.proofs.SpelledWritable.{spelled_writable}
use Rattle.city_json.specs.Tree.{object}
use Rattle.city_json.specs.Triples.{HasTriples}
use Rattle.city_cut_tests.proofs.answers.compact_document.Goals as goal

pub returns : goal.returns
returns c =
    let (members, spells, fits, shallow, written, are) = (rw c.in-Ok-Some.field-0-is at c.in-Ok-Some.ensures.object) in
    let same = c.in-Ok.ensures in (
      members,
      record {
        is = same ∙ written;
        writable = spelled_writable c.args.text.now (object members) spells;
        distinct = fits.1;
        within = fits.0;
      },
      are,
      subst (λ line. HasTriples line c.in-Ok-Some.object.triples) (sym same)
          (rw c.in-Ok-Some.field-0-is at c.in-Ok-Some.ensures.triples),
    )
