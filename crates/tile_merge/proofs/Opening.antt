-- Tiles whose headers were taken, one after another.
use Rattle.std.proofs.Common.{◌≡◌, ◌+◌, ◌++◌, ℕ, List, [], ◌∷◌, length, map, refl, sym, ap, subst, ◌∙◌, arith}
use Rattle.std.proofs.lemmas.List.{map-append}
use Rattle.city_feature.specs.Header.{HeaderValue}
use Rattle.city_feature.specs.Values.{HeaderJson, header_value}
use Rattle.tile_stream.specs.Head.{SomeTile, HasNoHead, GivesHead, GivesHeld}
use Rattle.tile_stream.specs.Held.{Held, HeldLine}
use Rattle.tile_merge.specs.Giving.{Giving}
use Rattle.tile_merge.specs.Merged.{HeadedTile, HaveHeads, headers_of, IsFirstHeadless}
use Rattle.tile_merge.specs.Opened.{AllThree, OpenState, IsOpened}
use Rattle.tile_stream.specs.Tile.{TileLines, stream_limits}
use Rattle.tile_stream.specs.Unread.{IsOfTile}
use Rattle.byte_streams.specs.declared.places.MergeFault.{MergeFault}
use Rattle.byte_streams.specs.declared.places.LineFault.{LineFault}
use Rattle.tile_merge.proofs.Threes.{all_three_push}

-- a head that was given of lines that may be left is one of a tile that the reader may give
module _ (MayBe MayGiveOpened : TileLines → Type 0) (same : (tile : TileLines) → MayBe tile → MayGiveOpened tile) where
  head_here : (after : TileLines → Type 0) (header : HeaderValue) (held : Held) → GivesHead MayBe after header held
      → GivesHead MayGiveOpened after header held
  head_here after header held gives left leaves =
      let head = gives left leaves in
      (head.0, same head.0 head.1, head.2)

  pub head_given : (after : TileLines → Type 0) (header : HeaderValue) (there : HeldLine)
      → GivesHeld MayBe after header there → GivesHeld MayGiveOpened after header there
  head_given after header there gives = (gives.0, gives.1, head_here after header gives.0 gives.2)

-- ---- three lists, place by place ----

module _ {A B C : Type 0} (P : A → B → C → Type 0) where
  pub all_three_long : (xs : List A) (ys : List B) (zs : List C) → AllThree P xs ys zs → (length ys ≡ length xs)
      × (length zs ≡ length xs)
  all_three_long [] [] [] all = (refl, refl)
  all_three_long [] [] (c ∷ zs) all = absurd all
  all_three_long [] (b ∷ ys) zs all = absurd all
  all_three_long (a ∷ xs) [] zs all = absurd all
  all_three_long (a ∷ xs) (b ∷ ys) [] all = absurd all
  all_three_long (a ∷ xs) (b ∷ ys) (c ∷ zs) all =
      let long = all_three_long xs ys zs all.1 in
      (omega (arith, long.0), omega (arith, long.1))

  -- the same of lists that are the same
  pub all_three_same : (xs : List A) (ys others : List B) (zs more : List C) → others ≡ ys → more ≡ zs
      → AllThree P xs ys zs → AllThree P xs others more
  all_three_same xs ys others zs more same also all = rw (same, also) all

-- ---- heads ----

module _ {R : Type 0} (gives : Giving R) where
  -- one tile more was opened
  pub opened_push : (readers : List R) (tiles : List (OpenState R)) (headers : List HeaderJson) (reader : R)
      (tile : OpenState R) (header : HeaderJson) → AllThree (IsOpened gives) readers tiles (map header_value headers)
      → IsOpened gives reader tile (header_value header)
      → (newer : List (OpenState R)) (more : List HeaderJson) → newer ≡ tiles ++ tile ∷ []
      → more ≡ headers ++ header ∷ [] → AllThree (IsOpened gives) (readers ++ reader ∷ []) newer
      (map header_value more)
  opened_push readers tiles headers reader tile header all one newer more tiles_are headers_are =
      let values = ap (map header_value) headers_are ∙ map-append header_value headers (header ∷ []) in
      rw (tiles_are, values) (all_three_push (IsOpened gives) readers tiles (map header_value headers) reader tile
      (header_value header) all one)

  abbrev head_of : (reader : R) (tile : OpenState R) (header : HeaderValue) → IsOpened gives reader tile header
      → HeadedTile
  head_of reader tile header opened =
      record {
        lines = (opened.head.2 opened.some.0 opened.some.1.0).0;
        header = header;
        held = opened.head.0;
        after = opened.some.0;
      }

  -- tiles that were opened have heads, with their headers at their lines
  pub have_heads : (readers : List R) (tiles : List (OpenState R)) (headers : List HeaderValue)
      → AllThree (IsOpened gives) readers tiles headers
      → (heads : List HeadedTile) × HaveHeads gives readers heads × (headers_of heads ≡ headers)
      × (map (λ (head : HeadedTile). head.held.line) heads ≡ map (λ (tile : OpenState R). tile.line) tiles)
  have_heads [] [] [] all = ([], tt, refl, refl)
  have_heads [] [] (header ∷ headers) all = absurd all
  have_heads [] (tile ∷ tiles) headers all = absurd all
  have_heads (reader ∷ readers) [] headers all = absurd all
  have_heads (reader ∷ readers) (tile ∷ tiles) [] all = absurd all
  have_heads (reader ∷ readers) (tile ∷ tiles) (header ∷ headers) all =
      let opened = all.0 in
      let others = have_heads readers tiles headers all.1 in
      let given = opened.head.2 opened.some.0 opened.some.1.0 in (
        head_of reader tile header opened ∷ others.0,
        ((given.1, given.2), others.1),
        ap (λ (l : List HeaderValue). header ∷ l) others.2,
        ap (λ (n : ℕ). n ∷ map (λ (head : HeadedTile). head.held.line) others.0) (opened.head.1.0 ∙ sym opened.line)
            ∙ ap (λ (l : List ℕ). tile.line ∷ l) others.3,
      )

  -- those before a tile with no head were opened
  pub first_headless : (readers before : List R) (reader : R) (others : List R) (tiles : List (OpenState R))
      (headers : List HeaderValue) → readers ≡ before ++ reader ∷ others
      → AllThree (IsOpened gives) before tiles headers
      → (at : LineFault) → SomeTile (IsOfTile (gives reader) stream_limits)
      (λ lines. HasNoHead lines (record { line = at.line; fault = at.fault }))
      → (count : ℕ) → count ≡ length tiles → (refusal : MergeFault)
      → refusal ≡ record { tile = count + 1; line = at.line; fault = at.fault }
      → IsFirstHeadless gives readers refusal
  first_headless readers before reader others tiles headers are opened at none count counted refusal is =
      let heads = have_heads before tiles headers opened in
      let long = all_three_long (IsOpened gives) before tiles headers opened in
      subst (IsFirstHeadless gives readers) (sym is) (record {
        before = before;
        reader = reader;
        others = others;
        readers_are = are;
        tiles = heads.0;
        heads = heads.1;
        number = ap (λ n. n + 1) (counted ∙ long.0);
        none = none;
      })
