-- Objects: the members that the pass takes, one after another; and the whole text.
use Rattle.std.proofs.Common.{◌≡◌, ◌++◌, ◌∙◌, ◌≤◌, ◌-◌, ℕ, List, [], ◌∷◌, length, take, drop, refl, ap, sym, subst, arith, append_assoc, append-nil, IsUtf8}
use Rattle.city_json.specs.Depth.{IsDeep}
use Rattle.city_json.proofs.DepthLaws.{nests_as_value}
use Rattle.std.proofs.lemmas.List.{drop-append-le, take-append-le, drop_all, length_push}
use Rattle.city_json.specs.Bytes.{comma, colon, open_brace, close_brace}
use Rattle.city_json.specs.Compact.{quoted, compact, compact_members}
use Rattle.city_json.specs.Compacting.{Taken, TakenMembers, TakenStart, TakenMember}
use Rattle.city_json.specs.Fits.{Fits, AreDistinctMembers, HasDistinctNames}
use Rattle.byte_streams.specs.Limits.{max_depth}
use Rattle.city_json.specs.Grammar.{Spells}
use Rattle.city_json.specs.Members.{names}
use Rattle.city_json.specs.Marks.{TakenMark}
use Rattle.city_json.specs.Reading.{after_white}
use Rattle.city_json.specs.Tree.{Tree, object, MemberTrees, no_members, member}
use Rattle.city_json.proofs.Scanning.{after_white-splits}
use Rattle.city_json.proofs.SoundItems.{Found, FoundMembers, FoundMember, members-last, members-next}
use Rattle.city_json.proofs.Sound.{member-found}
use Rattle.city_json.proofs.PassItems.{found_of}
use Rattle.city_json.proofs.Places.{at_mark}

-- one or more members and the closing brace, where white space was skipped, and their names
pub record MembersFrom (levels : ℕ) (b rest before after : List ℕ) (listed : List (List ℕ)) : Type 0 where
  pub name : List ℕ
  pub value : Tree
  pub others : MemberTrees
  pub found : FoundMembers levels (member name value others) b rest
  pub distinct : AreDistinctMembers (member name value others)
  pub is_shown : after ≡ before ++ (compact_members (member name value others) ++ close_brace ∷ [])
  pub names_are : names (member name value others) ≡ listed

-- the members of an object, and their names, which need not differ
pub record MembersWhole (levels : ℕ) (b rest before after : List ℕ) (listed : List (List ℕ)) : Type 0 where
  pub members : MemberTrees
  pub names_are : names members ≡ listed
  pub whole : HasDistinctNames members → TakenMembers levels b rest before after

pub found_member : {levels : ℕ} {b rest before after : List ℕ} {one two : List (List ℕ)}
    (taken : TakenMember levels b rest before after one two) → FoundMember levels taken.name taken.value b rest
found_member taken = record { text = taken.text; splits = taken.splits; spells = taken.spells; within = taken.within }

pub member_shown : (before quoted_name value mid after : List ℕ) → mid ≡ before ++ (quoted_name ++ colon ∷ [])
    → after ≡ mid ++ value → after ≡ before ++ (quoted_name ++ colon ∷ value)
member_shown before quoted_name value mid after is then =
    let joined : (before ++ (quoted_name ++ colon ∷ [])) ++ value ≡ before ++ (quoted_name ++ colon ∷ value) =
    simp append_assoc in
    then ∙ (ap (λ l. l ++ value) is ∙ joined)

-- a name with its colon, and a value
unfoldable pub member_taken : (levels : ℕ) (b start rest before mid after : List ℕ) (one two three : List (List ℕ))
    → TakenStart b start before mid one two → Taken levels start rest mid after → three ≡ two
    → TakenMember levels b rest before after one three
member_taken levels b start rest before mid after one two three named taken same =
    let found : Found levels taken.value (after_white named.next) rest =
    subst (λ l. Found levels taken.value l rest) named.starts (found_of taken) in
    let all = member-found levels named.name taken.value b
    (named.inner ++ named.left) named.inner named.left named.next rest named.splits refl named.spells named.goes_on
    found in
    record {
      name = named.name;
      value = taken.value;
      text = all.text;
      splits = all.splits;
      spells = all.spells;
      within = all.within;
      distinct = taken.distinct;
      is_shown = member_shown before (quoted named.name) (compact taken.value) mid after named.is_shown taken.is_shown;
      names_are = same ∙ named.names_are;
    }

pub last_member : (before quoted_name value mid after : List ℕ) (close : ℕ)
    → mid ≡ before ++ (quoted_name ++ colon ∷ value) → after ≡ mid ++ close ∷ []
    → after ≡ before ++ (((quoted_name ++ colon ∷ value) ++ []) ++ close ∷ [])
last_member before quoted_name value mid after close is then =
    let joined : (before ++ (quoted_name ++ colon ∷ value)) ++ close ∷ [] ≡ before
    ++ (((quoted_name ++ colon ∷ value) ++ []) ++ close ∷ []) = simp (append_assoc, append-nil) in
    then ∙ (ap (λ l. l ++ close ∷ []) is ∙ joined)

pub next_member : (before quoted_name value others mid after : List ℕ) (close : ℕ)
    → mid ≡ before ++ (quoted_name ++ colon ∷ value) → after ≡ (mid ++ comma ∷ []) ++ (others ++ close ∷ [])
    → after ≡ before ++ (((quoted_name ++ colon ∷ value) ++ comma ∷ others) ++ close ∷ [])
next_member before quoted_name value others mid after close is then =
    let joined : ((before ++ (quoted_name ++ colon ∷ value)) ++ comma ∷ []) ++ (others ++ close ∷ []) ≡ before
    ++ (((quoted_name ++ colon ∷ value) ++ comma ∷ others) ++ close ∷ []) = simp append_assoc in
    then ∙ (ap (λ l. (l ++ comma ∷ []) ++ (others ++ close ∷ [])) is ∙ joined)

unfoldable pub members_stop : (levels : ℕ) (b beyond rest before mid at_mark after_a_mark : List ℕ)
    (one two : List (List ℕ)) (taken : TakenMember levels b beyond before mid one two)
    → after_white beyond ≡ close_brace ∷ rest → at_mark ≡ mid → after_a_mark ≡ at_mark ++ close_brace ∷ []
    → MembersFrom levels b rest before after_a_mark (taken.name ∷ [])
members_stop levels b beyond rest before mid at_mark after_a_mark one two taken closes is₁ is₂ = record {
  name = taken.name;
  value = taken.value;
  others = no_members;
  found = members-last levels taken.name taken.value b beyond rest (found_member taken) closes;
  distinct = (taken.distinct, tt);
  is_shown = last_member before (quoted taken.name) (compact taken.value) mid after_a_mark close_brace taken.is_shown
      (is₂ ∙ ap (λ l. l ++ close_brace ∷ []) is₁);
  names_are = refl;
}

unfoldable pub members_step : (levels : ℕ) (b beyond next b' rest before mid at_mark after_a_mark before' after : List ℕ)
    (one two : List (List ℕ)) (listed : List (List ℕ)) (taken : TakenMember levels b beyond before mid one two)
    → after_white beyond ≡ comma ∷ next → at_mark ≡ mid → after_a_mark ≡ at_mark ++ comma ∷ []
    → b' ≡ after_white next → before' ≡ after_a_mark → MembersFrom levels b' rest before' after listed
    → MembersFrom levels b rest before after (taken.name ∷ listed)
members_step levels b beyond next b' rest before mid at_mark after_a_mark before' after one two listed taken goes is₁ is₂
    skips is₃ from =
    let shows : before' ≡ mid ++ comma ∷ [] = is₃ ∙ (is₂ ∙ ap (λ l. l ++ comma ∷ []) is₁) in
    let further : FoundMembers levels (member from.name from.value from.others) (after_white next) rest =
    subst (λ l. FoundMembers levels (member from.name from.value from.others) l rest) skips from.found in
    record {
      name = taken.name;
      value = taken.value;
      others = member from.name from.value from.others;
      found = members-next levels taken.name taken.value (member from.name from.value from.others) b beyond next rest
          (found_member taken) goes further;
      distinct = (taken.distinct, from.distinct);
      is_shown = next_member before (quoted taken.name) (compact taken.value)
          (compact_members (member from.name from.value from.others)) mid after close_brace taken.is_shown
          (from.is_shown ∙ ap (λ l. l ++ (compact_members (member from.name from.value from.others) ++ close_brace
          ∷ [])) shows);
      names_are = ap (λ l. taken.name ∷ l) from.names_are;
    }

unfoldable pub members_start : (levels : ℕ) (b b' rest before before' after : List ℕ) (done listed : List (List ℕ))
    → b' ≡ after_white b → before' ≡ before → done ≡ [] → MembersFrom levels b' rest before' after listed
    → MembersWhole levels b rest before after (done ++ listed)
members_start levels b b' rest before before' after done listed skips is none from =
    let white = after_white-splits b in
    record {
      members = member from.name from.value from.others;
      names_are = from.names_are ∙ ap (λ l. l ++ listed) (sym none);
      whole = λ differ. record {
        members = member from.name from.value from.others;
        inner = white.white ++ from.found.inner;
        splits = white.splits ∙ (ap (λ l. white.white ++ l) (sym skips ∙ from.found.splits)
            ∙ sym (append_assoc white.white from.found.inner (close_brace ∷ rest)));
        spells = from.found.spells white.white white.blank;
        within = from.found.within;
        names_differ = differ;
        distinct = from.distinct;
        is_shown = from.is_shown ∙ ap (λ l.
            l ++ (compact_members (member from.name from.value from.others) ++ close_brace ∷ [])) is;
      };
    }

unfoldable pub members_none : (levels : ℕ) (b rest before after : List ℕ) → after_white b ≡ close_brace ∷ rest
    → after ≡ before ++ close_brace ∷ [] → TakenMembers levels b rest before after
members_none levels b rest before after closes is =
    let white = after_white-splits b in
    record {
      members = no_members;
      inner = white.white;
      splits = white.splits ∙ ap (λ l. white.white ++ l) closes;
      spells = white.blank;
      within = omega arith;
      names_differ = tt;
      distinct = tt;
      is_shown = is;
    }

unfoldable pub object_taken : (levels : ℕ) (b b' rest before before' after : List ℕ) → (levels ≡ 0 → ⊥)
    → b ≡ open_brace ∷ b' → before' ≡ before ++ open_brace ∷ [] → TakenMembers (levels - 1) b' rest before' after
    → Taken levels b rest before after
object_taken levels b b' rest before before' after some opens is taken = record {
  value = object taken.members;
  text = open_brace ∷ taken.inner ++ close_brace ∷ [];
  splits = opens ∙ ap (λ l. open_brace ∷ l) (taken.splits ∙ sym (append_assoc taken.inner (close_brace ∷ []) rest));
  spells = (taken.inner, refl, taken.spells);
  within = omega (arith, taken.within);
  distinct = (taken.names_differ, taken.distinct);
  is_shown = taken.is_shown ∙ (ap (λ l. l ++ (compact_members taken.members ++ close_brace ∷ [])) is
      ∙ append_assoc before (open_brace ∷ []) (compact_members taken.members ++ close_brace ∷ []));
}

-- one name more after those from `base` on
pub names_more : (base : ℕ) (one two three : List (List ℕ)) (x : List ℕ) (listed : List (List ℕ)) → base ≤ length one
    → two ≡ one ++ x ∷ [] → three ≡ two → drop base one ++ (x ∷ listed) ≡ drop base three ++ listed
names_more base one two three x listed fits is same =
    let all : drop base three ≡ drop base one ++ x ∷ [] = ap (drop base) (same ∙ is)
    ∙ drop-append-le base one (x ∷ []) fits in
    sym (ap (λ l. l ++ listed) all ∙ append_assoc (drop base one) (x ∷ []) listed)

pub names_kept : (base : ℕ) (one two three : List (List ℕ)) (x : List ℕ) → base ≤ length one → two ≡ one ++ x ∷ []
    → three ≡ two → take base three ≡ take base one
names_kept base one two three x fits is same = ap (take base) (same ∙ is) ∙ take-append-le base one (x ∷ []) fits

pub names_left : (base : ℕ) (one two three : List (List ℕ)) (x : List ℕ) → base ≤ length one → two ≡ one ++ x ∷ []
    → three ≡ two → base ≤ length three
names_left base one two three x fits is same = omega (arith, fits, ap length same, ap length is, length_push one x)

-- what takes the members from the next one on takes all, where it does so from the one before the comma on
pub members_more : (levels base : ℕ) (all b beyond b' rest shown_all before mid before' after : List ℕ)
    (one two three listed : List (List ℕ)) (taken : TakenMember levels b beyond before mid one two)
    → base ≤ length one → three ≡ two → TakenMark comma beyond b' mid before'
    → ((l : List (List ℕ)) → MembersFrom levels b rest before after l
    → MembersWhole levels all rest shown_all after (drop base one ++ l))
    → MembersFrom levels b' rest before' after listed
    → MembersWhole levels all rest shown_all after (drop base three ++ listed)
members_more levels base all b beyond b' rest shown_all before mid before' after one two three listed taken fits same mark
    so_far from =
    subst (MembersWhole levels all rest shown_all after)
    (names_more base one two three taken.name listed fits taken.names_are same)
    (so_far (taken.name ∷ listed)
    (members_step levels b beyond mark.next b' rest before mid mid before' before' after one two listed taken mark.is_next
    refl mark.is_shown mark.starts refl from))

-- ---- the whole text
unfoldable pub text_taken : (text line : List ℕ) (at end last : ℕ) (start shown_at shown_end : List ℕ) → IsUtf8 text
    → start ≡ [] → shown_at ≡ start → drop at text ≡ after_white text
    → Taken max_depth (drop at text) (drop end text) shown_at shown_end
    → drop last text ≡ after_white (drop end text) → length text ≤ last → line ≡ shown_end → (value : Tree)
    × Spells text value × Fits value × (IsDeep text → ⊥) × (line ≡ compact value)
text_taken text line at end last start shown_at shown_end utf8 empty is₁ skipped taken skipped₂ over is₂ =
    let before = after_white-splits text in
    let beyond = after_white-splits (drop end text) in
    let nothing : after_white (drop end text) ≡ [] = sym skipped₂ ∙ drop_all last text over in
    let splits : text ≡ before.white ++ (taken.text ++ beyond.white) =
    before.splits ∙ ap (λ l. before.white ++ l) (sym skipped
    ∙ (taken.splits ∙ ap (λ l. taken.text ++ l) (beyond.splits
    ∙ (ap (λ l. beyond.white ++ l) nothing ∙ append-nil beyond.white)))) in
    let spells : Spells text taken.value =
    (utf8, (before.white, taken.text, beyond.white, splits, before.blank, taken.spells, beyond.blank)) in (
      taken.value,
      spells,
      (taken.within, taken.distinct),
      (nests_as_value text taken.value spells).1 taken.within,
      is₂
          ∙ (taken.is_shown ∙ ap (λ l. l ++ compact taken.value) (is₁ ∙ empty)),
    )
