-- The kept symbols of the names that words ask for, symbol by symbol.
use Rattle.command_listings.proofs.Words.{drop, map-append, take-append-drop, list_any, is_told}
use Rattle.command_listings.proofs.Words.{has_line, has_any_line, append_assoc, list_any-append}
use Rattle.command_listings.proofs.Words.{or-false, or-true, same_from_decides, ◌≡◌, ◌∙◌, ℕ, List}
use Rattle.command_listings.proofs.Words.{[], ◌∷◌, ◌++◌, Bool, true, false, cond, ◌||◌, ◌+◌, ◌<◌}
use Rattle.command_listings.proofs.Words.{length, take, get_or, Option, Some, None, option_map}
use Rattle.command_listings.proofs.Words.{refl, sym, ap, subst, option_and_then, unwrap_or}
use Rattle.command_listings.proofs.Words.{BTreeMap, UpdatesBy, get_by, is_at, Bor, slice_cmp, Vec}
use Rattle.command_listings.proofs.Words.{cons_option, option_to_list, lookup, nat_cmp, result_ok}
use Rattle.command_listings.proofs.Words.{bytes_eq, flat_map-append, filter-append}
use Rattle.command_listings.proofs.Words.{filter_map-append, btree_map_updates_str}
use Rattle.command_listings.proofs.Words.{bytes_eq-Decides, Item, CatalogEntries, Found, symbol_at}
use Rattle.command_listings.proofs.Words.{item_of_address, ListedSymbol, Output, Says, same_text}
use Rattle.command_listings.proofs.Words.{then, lines_of, is_mapping, symbol_of, symbols_in}
use Rattle.command_listings.proofs.Words.{AddressOptions, symbols_text, word_text, words_text}
use Rattle.command_listings.proofs.Words.{asked_of, IsSought, Kept, end_of, found_by, is_owner}
use Rattle.command_listings.proofs.Words.{is_sought, kept_at_its_address, kept_in, kept_line}
use Rattle.command_listings.proofs.Words.{kept_symbol, kept_symbols, named, sought}
use Rattle.std.proofs.lemmas.List.{append-nil}
use Rattle.command_listings.proofs.WordLemmas.{text_more, texts}

same_bytes : (xs ys : List ℕ) → bytes_eq xs ys ≡ true → xs ≡ ys
same_bytes xs ys is = (bytes_eq-Decides xs ys).0 is

own_bytes : (xs : List ℕ) → bytes_eq xs xs ≡ true
own_bytes xs = (bytes_eq-Decides xs xs).1 refl

-- the map's type
abbrev Symbols : Type 0
Symbols = BTreeMap (Bor (List ℕ)) (Vec Kept)

-- a map in which this is written at a name
abbrev pub Writes : List ℕ → Symbols → Symbols → Vec Kept → Type 0
Writes name m n v = UpdatesBy (λ x y. slice_cmp nat_cmp x.now y.now)
    (λ k. slice_cmp nat_cmp name k.now) m n (Some v)

-- what it has then
written : (name : List ℕ) (m n : Symbols) (v : Vec Kept) → Writes name m n v → (other : List ℕ)
    → found_by n other ≡ cond (bytes_eq name other) (Some v.items) (found_by m other)
written name m n v writes other =
    ap (option_map (λ (x : Vec Kept). x.items))
    (btree_map_updates_str name m n (Some v) writes other) ∙ by_test (bytes_eq name other)
  where
    by_test : (b : Bool) → option_map (λ (x : Vec Kept). x.items) (cond b (Some v)
        (get_by (λ k. slice_cmp nat_cmp other k.now) m)) ≡ cond b (Some v.items) (found_by m other)
    by_test true = refl
    by_test false = refl

-- ---- the names that words ask for

-- the test of one word more
is_sought_more : (words : List (List ℕ)) (word name : List ℕ) → is_sought (words ++ word ∷ []) name
    ≡ (is_sought words name || bytes_eq name (asked_of word).symbol)
is_sought_more words word name =
    list_any-append (λ w. bytes_eq name (asked_of w).symbol) words (word ∷ [])
    ∙ ap (λ b. is_sought words name || b) (or-false (bytes_eq name (asked_of word).symbol))

symmetric : (xs ys : List ℕ) → bytes_eq xs ys ≡ bytes_eq ys xs
symmetric xs ys = let d = bytes_eq-Decides ys xs in
    same_from_decides (bytes_eq xs ys) (bytes_eq ys xs) (bytes_eq-Decides xs ys)
    (λ p. sym (d.0 p), λ e. d.1 (sym e))

-- one word more, whose name has no symbols yet
pub word_more : (words : List (List ℕ)) (word : List ℕ) (m n : Symbols) (v : Vec Kept)
    → v.items ≡ [] → IsSought words [] m → Writes (asked_of word).symbol m n v
    → IsSought (words ++ word ∷ []) [] n
word_more words word m n v empty holds writes = λ other.
    written (asked_of word).symbol m n v writes other
    ∙ ap (λ items. cond (bytes_eq (asked_of word).symbol other) (Some items) (found_by m other))
    empty
    ∙ ap (λ o. cond (bytes_eq (asked_of word).symbol other) (Some []) o) (holds other)
    ∙ ap (λ b. cond b (Some []) (sought words [] other)) (symmetric (asked_of word).symbol other)
    ∙ either (is_sought words other) (bytes_eq other (asked_of word).symbol) []
    ∙ ap (λ b. cond b (Some []) None) (sym (is_sought_more words word other))
  where
    either : (a b : Bool) (none : List Kept)
        → cond b (Some none) (cond a (Some none) None) ≡ cond (a || b) (Some none) None
    either true true none = refl
    either true false none = refl
    either false true none = refl
    either false false none = refl

-- ---- one symbol of the listing more

-- those of another name stay
unnamed : (name : List ℕ) (o : Option Kept)
    → ((k : Kept) → o ≡ Some k → bytes_eq name k.name ≡ false) → named (option_to_list o) name ≡ []
unnamed name None other = refl
unnamed name (Some k) other = ap (λ b. cond b (k ∷ []) []) (other k refl)

own_named : (name : List ℕ) (o : Option Kept) → ((k : Kept) → o ≡ Some k → k.name ≡ name)
    → named (option_to_list o) name ≡ option_to_list o
own_named name None own = refl
own_named name (Some k) own =
    ap (λ b. cond b (k ∷ []) []) ((bytes_eq-Decides name k.name).1 (sym (own k refl)))

sought_more : (words : List (List ℕ)) (kept more : List Kept) (other : List ℕ)
    → named more other ≡ [] → sought words (kept ++ more) other ≡ sought words kept other
sought_more words kept more other none =
    ap (λ ks. cond (is_sought words other) (Some ks) None)
    (filter-append (λ k. bytes_eq other k.name) kept more
    ∙ ap (λ ks. named kept other ++ ks) none ∙ append-nil (named kept other))

module _ (words : List (List ℕ)) (kept : List Kept) (name : List ℕ) (o : Option Kept)
    (own : (k : Kept) → o ≡ Some k → k.name ≡ name) (m : Symbols)
    (holds : IsSought words kept m) where
  others : (other : List ℕ) → bytes_eq name other ≡ false → named (option_to_list o) other ≡ []
  others other apart = unnamed other o
      (λ k is. symmetric other k.name ∙ ap (λ n. bytes_eq n other) (own k is) ∙ apart)

  -- no word asks for its name
  pub not_sought : found_by m name ≡ None → IsSought words (kept ++ option_to_list o) m
  not_sought absent = λ other. by other (bytes_eq name other) refl
    where
      by : (other : List ℕ) (b : Bool) → bytes_eq name other ≡ b
          → found_by m other ≡ sought words (kept ++ option_to_list o) other
      by other false apart =
          holds other ∙ sym (sought_more words kept (option_to_list o) other (others other apart))
      by other true same =
          let here : found_by m other ≡ None =
          ap (found_by m) (sym (same_bytes name other same)) ∙ absent in
          here ∙ sym (none_there (is_sought words other) (named kept other)
          (named (kept ++ option_to_list o) other) (sym (holds other) ∙ here))
        where
          none_there : (b : Bool) (xs ys : List Kept) → cond b (Some xs) None ≡ None
              → cond b (Some ys) None ≡ None
          none_there true xs ys is = absurd (cc)
          none_there false xs ys is = refl

  -- a word does
  pub one_more : (v w : Vec Kept) → found_by m name ≡ Some v.items
      → w.items ≡ v.items ++ option_to_list o → (n : Symbols) → Writes name m n w
      → IsSought words (kept ++ option_to_list o) n
  one_more v w had grown n writes =
      λ other. written name m n w writes other ∙ by other (bytes_eq name other) refl
    where
      by : (other : List ℕ) (b : Bool) → bytes_eq name other ≡ b
          → cond b (Some w.items) (found_by m other) ≡ sought words (kept ++ option_to_list o) other
      by other false apart =
          holds other ∙ sym (sought_more words kept (option_to_list o) other (others other apart))
      by other true same =
          let is : name ≡ other = same_bytes name other same in
          let at : sought words kept name ≡ Some v.items = sym (holds name) ∙ had in
          let items : named (kept ++ option_to_list o) name ≡ named kept name ++ option_to_list o =
          filter-append (λ k. bytes_eq name k.name) kept (option_to_list o)
          ∙ ap (λ ks. named kept name ++ ks) (own_named name o own) in
          subst (λ q. Some w.items ≡ sought words (kept ++ option_to_list o) q) is
          (there (is_sought words name) (named kept name) v.items w.items (option_to_list o)
          (named (kept ++ option_to_list o) name) at grown items)
        where
          there : (b : Bool) (xs had now more all : List Kept) → cond b (Some xs) None ≡ Some had
              → now ≡ had ++ more → all ≡ xs ++ more → Some now ≡ cond b (Some all) None
          there true xs had now more all is grown joined = let same : xs ≡ had = cc in
              ap Some (grown ∙ ap (λ l. l ++ more) (sym same) ∙ sym joined)
          there false xs had now more all is grown joined = absurd (cc)

-- what a map has depends on its entries alone
pub same_entries : (words : List (List ℕ)) (kept : List Kept) (m n : Symbols)
    → n.entries ≡ m.entries → IsSought words kept m → IsSought words kept n
same_entries words kept m n same holds = λ name.
    ap (λ es. option_map (λ (x : Vec Kept). x.items)
    (lookup (is_at (λ (k : Bor (List ℕ)). slice_cmp nat_cmp name k.now)) es)) same ∙ holds name

-- the name of a kept symbol is that of its line
pub own_name : (c : CatalogEntries) (s : ListedSymbol) (k : Kept) → kept_symbol c s ≡ Some k
    → k.name ≡ s.name
own_name c s k is = unmapped (is_mapping s.name) is
  where
    kept_at : Found → Kept
    kept_at f = record { addr = s.addr; end = end_of f; name = s.name; owner = s.owner }

    by : (b : Bool) (o : Option Found) → cond b (option_map kept_at o) None ≡ Some k
        → k.name ≡ s.name
    by true (Some f) e = let same : kept_at f ≡ k = cc in sym (ap (λ (x : Kept). x.name) same)
    by true None e = absurd (cc)
    by false o e = absurd (cc)

    from_item : (i : Option Item) → option_and_then (kept_in c s) i ≡ Some k → k.name ≡ s.name
    from_item None e = absurd (cc)
    from_item (Some i) e = by (is_owner c i.tag s.owner) (symbol_at c i s.addr) e

    unmapped : (b : Bool) → cond b None (kept_at_its_address c s) ≡ Some k → k.name ≡ s.name
    unmapped true e = absurd (cc)
    unmapped false e = from_item (item_of_address c s.addr) e

-- one line more: it is no symbol, or none that is kept
module _ (words : List (List ℕ)) (kept : List Kept) (c : CatalogEntries) (line : List ℕ)
    (m : Symbols) (holds : IsSought words kept m) where
  abbrev pub all : List Kept
  all = kept ++ option_to_list (kept_line c line)

  passed : kept_line c line ≡ None → IsSought words all m
  passed none = rw (ap (λ o. kept ++ option_to_list o) none ∙ append-nil kept) holds

  pub no_symbol : None ≡ result_ok (symbol_of line) → IsSought words all m
  no_symbol none = passed (ap (option_and_then (kept_symbol c)) (sym none))

  module _ (s : ListedSymbol) (is : Some s ≡ result_ok (symbol_of line)) where
    line_is : kept_line c line ≡ kept_symbol c s
    line_is = ap (option_and_then (kept_symbol c)) (sym is)

    own : (k : Kept) → kept_line c line ≡ Some k → k.name ≡ s.name
    own k at = own_name c s k (sym line_is ∙ at)

    pub name_not_sought : found_by m s.name ≡ None → IsSought words all m
    name_not_sought absent = not_sought words kept s.name (kept_line c line) own m holds absent

    pub symbol_not_kept : None ≡ kept_symbol c s → (n : Symbols) → n.entries ≡ m.entries
        → IsSought words all n
    symbol_not_kept none n same = same_entries words all m n same (passed (line_is ∙ sym none))

    pub symbol_kept : (k : Kept) → Some k ≡ kept_symbol c s → (v w : Vec Kept)
        → found_by m s.name ≡ Some v.items → w.items ≡ v.items ++ k ∷ [] → (n : Symbols)
        → Writes s.name m n w → IsSought words all n
    symbol_kept k at v w had grown n writes =
        one_more words kept s.name (kept_line c line) own m holds v w had
        (grown ∙ ap (λ o. v.items ++ option_to_list o) (at ∙ sym line_is)) n writes

-- ---- line by line

-- one line more
pub line_more : (c : CatalogEntries) (lines : List (List ℕ)) (line : List ℕ)
    → kept_symbols c (symbols_in (lines ++ line ∷ []))
    ≡ kept_symbols c (symbols_in lines) ++ option_to_list (kept_line c line)
line_more c lines line =
    ap (kept_symbols c) (filter_map-append (λ l. result_ok (symbol_of l)) lines (line ∷ []))
    ∙ filter_map-append (kept_symbol c) (symbols_in lines) (symbols_in (line ∷ []))
    ∙ ap (λ ks. kept_symbols c (symbols_in lines) ++ ks) (by_symbol (result_ok (symbol_of line)))
  where
    alone : (o : Option Kept) → cons_option o [] ≡ option_to_list o
    alone None = refl
    alone (Some k) = refl

    by_symbol : (o : Option ListedSymbol)
        → kept_symbols c (cons_option o []) ≡ option_to_list (option_and_then (kept_symbol c) o)
    by_symbol None = refl
    by_symbol (Some s) = alone (kept_symbol c s)

-- ---- all words

own_is_sought : (before after : List (List ℕ)) (word : List ℕ)
    → is_sought (before ++ word ∷ after) (asked_of word).symbol ≡ true
own_is_sought [] after word =
    ap (λ b. b || is_sought after (asked_of word).symbol) (own_bytes (asked_of word).symbol)
own_is_sought (w ∷ ws) after word =
    ap (λ b. bytes_eq (asked_of word).symbol (asked_of w).symbol || b) (own_is_sought ws after word)
    ∙ or-true (bytes_eq (asked_of word).symbol (asked_of w).symbol)

-- a map has the symbols of the names of words
module _ (form : AddressOptions) (words : List (List ℕ)) (kept : List Kept) (m : Symbols)
    (holds : IsSought words kept m) where
  abbrev by_map : List ℕ → List Kept
  by_map name = unwrap_or (found_by m name) []

  has_own : (before ws : List (List ℕ)) (w : List ℕ) → words ≡ before ++ w ∷ ws
      → by_map (asked_of w).symbol ≡ named kept (asked_of w).symbol
  has_own before ws w is =
      let symbol = (asked_of w).symbol in
      let asks : is_sought words symbol ≡ true =
      ap (λ all. is_sought all symbol) is ∙ own_is_sought before ws w in
      ap (λ o. unwrap_or o [])
      (holds symbol ∙ ap (λ b. cond b (Some (named kept symbol)) None) asks)

  -- so it gives their text
  texts_from : (before after : List (List ℕ)) → words ≡ before ++ after
      → words_text form by_map after ≡ words_text form (named kept) after
  texts_from before [] is = refl
  texts_from before (w ∷ ws) is =
      ap (λ ks. symbols_text form w (asked_of w) ks ++ words_text form by_map ws)
      (has_own before ws w is)
      ∙ ap (λ text. symbols_text form w (asked_of w) (named kept (asked_of w).symbol) ++ text)
      (texts_from (before ++ w ∷ []) ws (is ∙ sym (append_assoc before (w ∷ []) ws)))

  pub text_by_map : words_text form (λ name. unwrap_or (found_by m name) []) words
      ≡ words_text form (named kept) words
  text_by_map = texts_from [] words refl

  -- and says whether one of them has a line
  lines_from : (before after : List (List ℕ)) → words ≡ before ++ after
      → has_any_line form by_map after ≡ has_any_line form (named kept) after
  lines_from before [] is = refl
  lines_from before (w ∷ ws) is =
      ap (λ ks. list_any (is_told form (asked_of w)) ks || has_any_line form by_map ws)
      (has_own before ws w is)
      ∙ ap (λ b. has_line form (named kept) w || b)
      (lines_from (before ++ w ∷ []) ws (is ∙ sym (append_assoc before (w ∷ []) ws)))

  pub line_by_map : has_any_line form (λ name. unwrap_or (found_by m name) []) words
      ≡ has_any_line form (named kept) words
  line_by_map = lines_from [] words refl

-- where no text is left, all lines were gone through
pub whole_text : (done : List (List ℕ)) (rest text : List ℕ) → done ++ lines_of rest ≡ lines_of text
    → rest ≡ [] → done ≡ lines_of text
whole_text done rest text joined none =
    sym (ap (λ r. done ++ lines_of r) none ∙ append-nil done) ∙ joined

-- the text of one word more was said
pub word_said : {W : Type 0} {contents : W → Option (List ℕ)} (form : AddressOptions)
    (found : List ℕ → List Kept) (words : List (Bor (List ℕ))) (i : ℕ) (d : Bor (List ℕ))
    {old mid new : Output W} → i < length words
    → Says contents old mid (words_text form found (texts (take i words)))
    → Says contents mid new (word_text form found (get_or words i d).now)
    → Says contents old new (words_text form found (texts (take (i + 1) words)))
word_said form found words i d below before said =
    let w = (get_or words i d).now in
    let longer : words_text form found (texts (take (i + 1) words))
    ≡ words_text form found (texts (take i words)) ++ word_text form found w =
    ap (words_text form found) (text_more words i d below)
    ∙ flat_map-append (word_text form found) (texts (take i words)) (w ∷ [])
    ∙ ap (λ t. words_text form found (texts (take i words)) ++ t)
    (append-nil (word_text form found w)) in
    same_text (sym longer) (then before said)

-- one word more, and whether it passes
module _ (p : List ℕ → Bool) (words : List (Bor (List ℕ))) (i : ℕ) (d : Bor (List ℕ))
    (below : i < length words) where
  passes_more : (rest : List (List ℕ)) → list_any p (texts (take i words)) ≡ false
      → list_any p (texts (take (i + 1) words) ++ rest)
      ≡ (p (get_or words i d).now || list_any p rest)
  passes_more rest none =
      list_any-append p (texts (take (i + 1) words)) rest
      ∙ ap (λ b. b || list_any p rest) (ap (list_any p) (text_more words i d below)
      ∙ list_any-append p (texts (take i words)) ((get_or words i d).now ∷ [])
      ∙ ap (λ b. b || (p (get_or words i d).now || false)) none
      ∙ or-false (p (get_or words i d).now))

  pub none_passes : (b : Bool) → list_any p (texts (take i words)) ≡ false
      → b ≡ p (get_or words i d).now → b ≡ false → list_any p (texts (take (i + 1) words)) ≡ false
  none_passes b none is false_is = ap (list_any p) (sym (append-nil (texts (take (i + 1) words))))
      ∙ passes_more [] none ∙ or-false (p (get_or words i d).now) ∙ sym is ∙ false_is

  pub one_passes : (b : Bool) → list_any p (texts (take i words)) ≡ false
      → b ≡ p (get_or words i d).now → b ≡ true → true ≡ list_any p (texts words)
  one_passes b none is true_is =
      sym (ap (λ l. list_any p (texts l)) (sym (take-append-drop (i + 1) words)) ∙ ap (list_any p)
      (map-append (λ (w : Bor (List ℕ)). w.now) (take (i + 1) words) (drop (i + 1) words))
      ∙ passes_more (texts (drop (i + 1) words)) none
      ∙ ap (λ x. x || list_any p (texts (drop (i + 1) words))) (sym is ∙ true_is))
