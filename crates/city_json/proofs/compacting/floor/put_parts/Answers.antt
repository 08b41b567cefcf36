use Rattle.std.proofs.Common.{◌∙◌, ◌+◌, ◌-◌, ◌∷◌, length, map, take, drop, ap, subst, sym, append-nil}
use Rattle.std.proofs.lemmas.List.{drop_all, drop_more}
use Rattle.city_json.specs.Tree.{named_tree}
use Rattle.city_json.proofs.PrintedParts.{GoesOn, PrintsOn, first_and_others, goes_end, goes_first, goes_next, prints_first, prints_next}
use Rattle.city_json.proofs.compacting.floor.put_parts.Goals as goal

pub loop-member-init : goal.loop-member-init
loop-member-init c =
    let line = c.args.line.now in
    let others = take (length c.args.members.now - 1) (drop 1 c.args.members.now) in
    let first = c.first-item.result in
    let split = first_and_others c.args.members.now first c.in-len1-up.len_at_least c.first-item.is in
    record {
      line = subst (λ all. PrintsOn line (map named_tree all) c.put_part.new.line (map named_tree others)) (sym split)
          (prints_first line c.put_part.new.line (named_tree first) (map named_tree others) c.in_ok-put_part.ensures.line);
      parts = subst (λ all. GoesOn (length line) (map named_tree all) (length c.put_part.new.line + 1)
          (map named_tree others) c.put_part.new.parts.items) (sym split)
          (goes_first (length line) (named_tree first) (map named_tree others) c.args.parts.now.items
          c.put_part.new.parts.items (length c.put_part.new.line) c.requires c.in_ok-put_part.ensures.part);
    }

pub loop-member-preserved : goal.loop-member-preserved
loop-member-preserved c =
    let line = c.args.line.now in
    let all = map named_tree c.args.members.now in
    let others = take (length c.args.members.now - 1) (drop 1 c.args.members.now) in
    let i = c.loop-member.member-index in
    let next = c.member-item.result in
    let left = map named_tree (drop (i + 1) others) in
    let step = drop_more others i next c.loop-member-test.true
    ∙ ap (λ one. one ∷ drop (i + 1) others) (sym c.member-item.is) in
    record {
      line = prints_next line c.loop-member.line c.put_next_part.new.line all (named_tree next) left
          (subst (λ xs. PrintsOn line all c.loop-member.line (map named_tree xs)) step c.loop-member.invariant.line)
          c.in_ok-put_next_part.ensures.line;
      parts = goes_next (length line) (length c.loop-member.line + 1) all (named_tree next) left
          c.loop-member.parts.items c.put_next_part.new.parts.items
          (subst (λ xs. GoesOn (length line) all (length c.loop-member.line + 1) (map named_tree xs)
          c.loop-member.parts.items) step c.loop-member.invariant.parts)
          (length c.put_next_part.new.line) c.in_ok-put_next_part.ensures.part;
    }

pub returns : goal.returns
returns c =
    let line = c.args.line.now in
    let all = map named_tree c.args.members.now in
    let others = take (length c.args.members.now - 1) (drop 1 c.args.members.now) in
    let none = drop_all c.loop-member.member-index others c.loop-member-test.false in
    record {
      line = sym (append-nil c.loop-member.line)
          ∙ subst (λ xs. PrintsOn line all c.loop-member.line (map named_tree xs)) none c.loop-member.invariant.line;
      parts = goes_end (length line) (length c.loop-member.line + 1) all c.loop-member.parts.items
          (subst (λ xs. GoesOn (length line) all (length c.loop-member.line + 1) (map named_tree xs)
          c.loop-member.parts.items) none c.loop-member.invariant.parts);
    }
