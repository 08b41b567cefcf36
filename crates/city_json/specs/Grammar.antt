-- JSON texts (RFC 8259, sections 2 to 8): which bytes spell which value.
use Rattle.std.specs.Prelude.{◌≡◌, ◌⊎◌, ◌++◌, ℕ, List, [], ◌∷◌, true, false, codes, IsUtf8}
use Rattle.std.specs.List.{AllByRecursion}
use Rattle.city_json.specs.Bytes.{space, tab, newline, carriage_return, open_bracket, close_bracket, open_brace, close_brace, comma, colon}
use Rattle.city_json.specs.Number.{IsNumber}
use Rattle.city_json.specs.Strings.{SpellsString}
use Rattle.city_json.specs.Tree.{Tree, null, boolean, number, string, array, object, ItemTrees, no_items, item, MemberTrees, no_members, member}

abbrev pub IsWhite : ℕ → Type 0
IsWhite b = (b ≡ space) ⊎ (b ≡ tab) ⊎ (b ≡ newline) ⊎ (b ≡ carriage_return)

-- white space, or nothing (section 2)
abbrev pub IsBlank : List ℕ → Type 0
IsBlank = AllByRecursion IsWhite

-- white space may stand on either side
abbrev pub Spaced : (List ℕ → Type 0) → List ℕ → Type 0
Spaced P b = (before inner after : List ℕ) × (b ≡ before ++ (inner ++ after)) × IsBlank before × P inner × IsBlank after

-- a member: its name, a colon, and its value, which P says (section 4)
abbrev pub SpellsMember : List ℕ → (List ℕ → Type 0) → List ℕ → Type 0
SpellsMember name P b = (before after : List ℕ) × (b ≡ before ++ colon ∷ after) × Spaced (SpellsString name) before
    × Spaced P after

-- a value with no white space around it (sections 3 to 7)
abbrev mutual
  pub SpellsValue : Tree → List ℕ → Type 0
  SpellsValue null b = b ≡ codes "null"
  SpellsValue (boolean true) b = b ≡ codes "true"
  SpellsValue (boolean false) b = b ≡ codes "false"
  SpellsValue (number text) b = (b ≡ text) × IsNumber text
  SpellsValue (string text) b = SpellsString text b
  SpellsValue (array items) b = (inner : List ℕ) × (b ≡ open_bracket ∷ inner ++ close_bracket ∷ [])
      × SpellsItems items inner
  SpellsValue (object members) b = (inner : List ℕ) × (b ≡ open_brace ∷ inner ++ close_brace ∷ [])
      × SpellsMembers members inner

  -- what stands between the brackets (section 5)
  pub SpellsItems : ItemTrees → List ℕ → Type 0
  SpellsItems no_items b = IsBlank b
  SpellsItems (item value others) b = (first rest : List ℕ) × (b ≡ first ++ rest) × Spaced (SpellsValue value) first
      × SpellsMoreItems others rest

  -- a comma before each further item
  pub SpellsMoreItems : ItemTrees → List ℕ → Type 0
  SpellsMoreItems no_items b = b ≡ []
  SpellsMoreItems (item value others) b = (next rest : List ℕ) × (b ≡ comma ∷ next ++ rest)
      × Spaced (SpellsValue value) next × SpellsMoreItems others rest

  -- what stands between the braces (section 4)
  pub SpellsMembers : MemberTrees → List ℕ → Type 0
  SpellsMembers no_members b = IsBlank b
  SpellsMembers (member name value others) b = (first rest : List ℕ) × (b ≡ first ++ rest)
      × SpellsMember name (SpellsValue value) first × SpellsMoreMembers others rest

  pub SpellsMoreMembers : MemberTrees → List ℕ → Type 0
  SpellsMoreMembers no_members b = b ≡ []
  SpellsMoreMembers (member name value others) b = (next rest : List ℕ) × (b ≡ comma ∷ next ++ rest)
      × SpellsMember name (SpellsValue value) next × SpellsMoreMembers others rest

-- The bytes are UTF-8, and white space, a value and white space (sections 2 and 8.1).
abbrev pub Spells : List ℕ → Tree → Type 0
Spells b value = IsUtf8 b × Spaced (SpellsValue value) b
