use Rattle.std.proofs.Common.{◌≡◌, ◌<◌, ℕ, [], length, map, inl, inr, refl, ap, ◌∙◌, arith}
use Rattle.std.proofs.lemmas.List.{length-map}
use Rattle.std.proofs.lemmas.Result.{err_from_is_err_and}
use Rattle.city_feature.specs.Values.{header_value}
use Rattle.tile_merge.specs.Opened.{IsOpened}
use Rattle.tile_merge.proofs.Opening.{all_three_long, all_three_same}
use Rattle.tile_merge.specs.Merged.{IsFirstUnfit}
use Rattle.tile_merge.proofs.Joining.{within_tiles, join_refused, no_heads, shifts_long}
use Rattle.tile_merge.proofs.Readying.{few_left, quiet_early}
use Rattle.tile_merge.proofs.merging.tiles.join_tiles.Goals as goal

pub take_heads-requires : goal.take_heads-requires
take_heads-requires g c = record {
  few = omega (arith, c.in_ok-tile_count.ensures.ok, c.len.ensures, c.args.readers.ok.0);
}

pub returns-in_err-tile_count : goal.returns-in_err-tile_count
returns-in_err-tile_count g c =
    let e = err_from_is_err_and c.from_residual.result c.from_residual.ensures.1 in
    let many = c.in_err-tile_count.ensures.many in
    let over : 64 < length c.args.readers.items = omega (arith, many.0, c.len.ensures, c.args.readers.ok.0) in
    rw (e.1, e.2, many.1) (record {
      ok = tt;
      few = tt;
      long = tt;
      shifts = tt;
      most = tt;
      room = tt;
      refused = inl ((refl, refl), refl, over);
      too_many = λ _. refl;
      quiet = λ _. refl;
    })

pub returns-in_err-tiles : goal.returns-in_err-tiles
returns-in_err-tiles g c =
    let e = err_from_is_err_and c.from_residual-in_err-tiles.result c.from_residual-in_err-tiles.ensures.1 in
    let why = no_heads {B = IsFirstUnfit g.R.Source.gives c.args.base c.args.readers.items c.in_err-tiles.field-0.0}
    c.in_err-tiles.ensures.refused in
    rw (e.1, e.2) (record {
      ok = tt;
      few = tt;
      long = tt;
      shifts = tt;
      most = tt;
      room = tt;
      refused = inr why;
      too_many = λ over. absurd (omega (arith, over, c.in_ok-tile_count.ensures.ok, c.len.ensures, c.args.readers.ok.0));
      quiet = quiet_early g.R.Source.gives c.args.base c.args.readers.items c.in_err-tiles.field-0.0 why;
    })

pub join_headers-requires-clause-some : goal.join_headers-requires-clause-some
join_headers-requires-clause-some g c =
    let headers = c.in_ok-tiles.field-0.headers.items in
    let long = all_three_long (IsOpened g.R.Source.gives) _ _ _ c.in_ok-tiles.ensures.ok in
    omega (arith, long.1, length-map headers header_value, ap length c.deref.ensures.value, c.requires.some)

pub join_headers-requires-clause-few : goal.join_headers-requires-clause-few
join_headers-requires-clause-few g c =
    let headers = c.in_ok-tiles.field-0.headers.items in
    let long = all_three_long (IsOpened g.R.Source.gives) _ _ _ c.in_ok-tiles.ensures.ok in
    omega (
      arith,
      long.1,
      length-map headers header_value,
      ap length c.deref.ensures.value,
      c.in_ok-tile_count.ensures.ok,
      c.len.ensures,
      c.args.readers.ok.0,
    )

pub refusal_at_head-requires : goal.refusal_at_head-requires
refusal_at_head-requires g c =
    let headers = map header_value c.deref.result.now in
    let tiles = c.deref-in-Err.result.now in
    let opened = all_three_same (IsOpened g.R.Source.gives) c.args.readers.items _ tiles _ headers
    c.deref-in-Err.ensures.value (ap (map header_value) c.deref.ensures.value) c.in_ok-tiles.ensures.ok in
    record {
      within = within_tiles g.R.Source.gives c.args.base c.args.readers.items tiles headers opened _ _
          c.in-Err.ensures.refusal;
    }

pub returns-in-Err : goal.returns-in-Err
returns-in-Err g c =
    let headers = map header_value c.deref.result.now in
    let tiles = c.deref-in-Err.result.now in
    let opened = all_three_same (IsOpened g.R.Source.gives) c.args.readers.items _ tiles _ headers
    c.deref-in-Err.ensures.value (ap (map header_value) c.deref.ensures.value) c.in_ok-tiles.ensures.ok in
    let why = join_refused g.R.Source.gives c.args.base c.args.readers.items tiles headers opened c.in-Err.refused.tile
    c.in-Err.refused.fault c.in-Err.ensures.refusal c.refusal_at_head.result c.refusal_at_head.ensures.none
    c.refusal_at_head.ensures.some in
    record {
      ok = tt;
      few = tt;
      long = tt;
      shifts = tt;
      most = tt;
      room = tt;
      refused = inr why;
      too_many = λ over. absurd (omega (arith, over, c.in_ok-tile_count.ensures.ok, c.len.ensures, c.args.readers.ok.0));
      quiet = quiet_early g.R.Source.gives c.args.base c.args.readers.items c.refusal_at_head.result why;
    }

pub returns-in_err-ends : goal.returns-in_err-ends
returns-in_err-ends g c =
    let e = err_from_is_err_and c.from_residual-in_err-ends.result c.from_residual-in_err-ends.ensures.1 in
    rw (e.1, e.2) (record {
      ok = tt;
      few = tt;
      long = tt;
      shifts = tt;
      most = tt;
      room = tt;
      refused = inr (inr (inr ((refl, refl), refl)));
      too_many = λ over. absurd (omega (arith, over, c.in_ok-tile_count.ensures.ok, c.len.ensures, c.args.readers.ok.0));
      quiet = λ _. refl;
    })

pub returns : goal.returns
returns g c =
    let gives = g.R.Source.gives in
    let readers = c.args.readers.items in
    let headers = map header_value c.deref.result.now in
    let tiles = c.in_ok-tiles.field-0.tiles.items in
    let opened = all_three_same (IsOpened gives) readers tiles tiles _ headers refl
    (ap (map header_value) c.deref.ensures.value) c.in_ok-tiles.ensures.ok in
    let long = all_three_long (IsOpened gives) _ _ _ c.in_ok-tiles.ensures.ok in
    let counted : c.len-2.result ≡ length tiles = omega (arith, c.len-2.ensures, c.in_ok-tiles.tiles.ok.0) in
    record {
      ok = record { headers = headers; opened = opened; joined = c.in-Ok.ensures.ok };
      few = omega (arith, c.in_ok-tile_count.ensures.ok, c.len.ensures, c.args.readers.ok.0);
      long = long.0;
      shifts = shifts_long gives c.args.base readers tiles headers opened c.in-Ok.joined.line c.in-Ok.joined.shifts
          c.in-Ok.ensures.ok;
      most = few_left gives c.args.base readers readers tiles _ c.in_ok-tiles.ensures.ok;
      room = c.in_ok-ends.ensures ∙ ap (λ (n : ℕ). record { room = n; ends = [] }) counted;
      refused = tt;
      too_many = λ over. absurd (omega (arith, over, c.in_ok-tile_count.ensures.ok, c.len.ensures, c.args.readers.ok.0));
      quiet = tt;
    }
