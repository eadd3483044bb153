-- A command whose symbols are kept is scoped alike after the names that are left.
use Rattle.std.proofs.Common.{List, [], ◌∷◌, ◌++◌, ℕ, ◌≡◌, Bool, true, false, is_some, ◌||◌, Option, Some, None, refl, ap, sym, subst, ◌∙◌, true≢false, option_map, if◌then◌else◌}
use Rattle.dk_model.specs.PlainTerms.{Tree, star, symbol, variable, rule_variable, apply, bare, annotated, product}
use Rattle.dk_model.specs.PlainCommands.{PlainLeft, left_symbol, left_rule_variable, left_variable, left_wildcard, left_guard, left_abstraction, left_apply, PlainScopedRule, PlainAsked, typed, alike, type_of, value_of, PlainCommand, declare, rule_command, query}
use Rattle.dk_parser.specs.Written.{Written, written_name, written_qualified, written_star, written_wild, written_apply, written_arrow, written_product, written_bare, written_annotated, WrittenPattern, pattern_name, pattern_qualified, pattern_wild, pattern_guard, pattern_apply, pattern_bare, WrittenParam, WrittenNote, WrittenRule, WrittenAsked, asked_typed, asked_alike, asked_type, asked_value, WrittenForm, written_declare, written_rules, written_query, written_module, written_require}
use Rattle.std.specs.Map.{lookup}
use Rattle.scope_terms.specs.Scopes.{Spelling, Module, Symbols, numbers_in, own_of, same_spelling, Binder, Numbered, no_names, number_of, with_name, Scoping, scoped, refused, one, both as both_scoped, binds, number_from, means_variable, means_rule_variable, means_symbol, unknown, meant_term, meant_left, term_of, maybe_term_of, left_of, Declaration, with_parameter, declaration_of, notes_of, variables_of, sides_of, rule_of, rules_of, asked_of, command_of, scope_of}
use Rattle.std.specs.Option.{option_map_or}
use Rattle.dk_model.specs.declared.code.Code.{Code}
use Rattle.prune_theory.specs.Alike.{Each, none_left, one_more, Maybe, neither, both, Alike, alike_star, alike_symbol, alike_variable, alike_rule_variable, alike_apply, alike_bare, alike_annotated, alike_product, AlikeLeft, alike_left_symbol, alike_left_rule_variable, alike_left_variable, alike_left_wildcard, alike_left_guard, alike_left_abstraction, alike_left_apply, AlikeScopedRule, alike_scoped_rule, AlikeAsked, alike_typed, alike_alike, alike_type_of, alike_value_of, AlikeCommand, alike_declare, alike_rule_command, alike_query}
use Rattle.prune_theory.specs.Renumbering.{rank, Renumbers}
use Rattle.prune_theory.specs.Mentions.{term_symbols, maybe_symbols, notes_symbols, left_symbols, rule_symbols, rules_symbols, asked_symbols, symbols_of}

-- each is kept
abbrev pub AreKept : (ℕ → Bool) → List ℕ → Type 0
AreKept keep [] = Unit {0}
AreKept keep (k ∷ ks) = (keep k ≡ true) × AreKept keep ks

pub kept_both : (keep : ℕ → Bool) (xs ys : List ℕ) → AreKept keep (xs ++ ys) → AreKept keep xs × AreKept keep ys
kept_both keep [] ys h = (tt, h)
kept_both keep (x ∷ xs) ys h = let r : AreKept keep xs × AreKept keep ys = kept_both keep xs ys h.1 in ((h.0, r.0), r.1)

-- the number of a name, and its number among the names that are left
pub data NumberCut (keep : ℕ → Bool) : Option ℕ → Option ℕ → Type 0 where
  known_to_none : NumberCut keep None None
  known_and_kept : {k : ℕ} → keep k ≡ true → NumberCut keep (Some k) (Some (rank keep k))
  known_and_left : {k : ℕ} → keep k ≡ false → NumberCut keep (Some k) None

abbrev pub NamesCut : (ℕ → Bool) → Numbered → Numbered → Type 0
NamesCut keep N M = (x : Spelling) → NumberCut keep (number_of N x) (number_of M x)

-- the same of each module
abbrev pub SymbolsCut : (ℕ → Bool) → Symbols → Symbols → Type 0
SymbolsCut keep A B = (m : Module) (x : Spelling) → NumberCut keep (lookup (same_spelling x) (numbers_in A m)) (lookup (same_spelling x) (numbers_in B m))

-- where the first is scoped, to something of which K holds, the second is, to something that R ties to it
abbrev pub Scopes : {A B : Type 0} → (A → Type 0) → (A → B → Type 0) → Scoping A → Scoping B → Type 0
Scopes K R (refused c) y = Unit {0}
Scopes {B} K R (scoped a) y = K a → (b : B) × (y ≡ scoped b) × R a b

one_scopes : {A B C D : Type 0} {K : A → Type 0} {R : A → B → Type 0} (L : C → Type 0) (T : C → D → Type 0) (f : A → C) (g : B → D) (x : Scoping A) (y : Scoping B)
    → ((a : A) → L (f a) → K a) → ((a : A) (b : B) → R a b → T (f a) (g b)) → Scopes K R x y → Scopes L T (one f x) (one g y)
one_scopes L T f g (refused c) y k r s = tt
one_scopes L T f g (scoped a) y k r s = λ l. let h : _ = s (k a l) in (g h.0, ap (one g) h.1, r a h.0 h.2)

both_scopes : {A B C D E F : Type 0} {K : A → Type 0} {R : A → D → Type 0} {L : B → Type 0} {T : B → E → Type 0} (M : C → Type 0) (U : C → F → Type 0) (f : A → B → C) (g : D → E → F)
    (x : Scoping A) (x' : Scoping D) (y : Scoping B) (y' : Scoping E)
    → ((a : A) (b : B) → M (f a b) → K a × L b) → ((a : A) (b : B) (d : D) (e : E) → R a d → T b e → U (f a b) (g d e)) → Scopes K R x x' → Scopes L T y y' → Scopes M U (both_scoped f x y) (both_scoped g x' y')
both_scopes M U f g (refused c) x' y y' k r s t = tt
both_scopes M U f g (scoped a) x' (refused c) y' k r s t = tt
both_scopes M U f g (scoped a) x' (scoped b) y' k r s t = λ m. let h : _ = k a b m in let p : _ = s h.0 in let q : _ = t h.1 in
    (g p.0 q.0, (λ i. both_scoped g (p.1 i) (q.1 i)), r a b p.0 q.0 p.2 q.2)

-- a declaration has a type or a body, as each that is written has
abbrev pub IsWhole : PlainCommand → Type 0
IsWhole (declare s A b) = (is_some A || is_some b) ≡ true
IsWhole (rule_command rs) = Unit {0}
IsWhole (query demand a) = Unit {0}

module _ (keep : ℕ → Bool) where
  abbrev KeptTree : Tree → Type 0
  KeptTree t = AreKept keep (term_symbols t)

  abbrev KeptLeft : PlainLeft → Type 0
  KeptLeft l = AreKept keep (left_symbols l)

  abbrev KeptMaybe : Option Tree → Type 0
  KeptMaybe o = AreKept keep (maybe_symbols o)

  abbrev pub KeptCommand : PlainCommand → Type 0
  KeptCommand c = IsWhole c × AreKept keep (symbols_of c)

  meant_scopes : (o v n m : Option ℕ) → NumberCut keep n m
      → Scopes KeptTree (Alike (Renumbers keep)) (meant_term (option_map_or means_variable o (option_map_or means_rule_variable v (option_map_or means_symbol n unknown))))
      (meant_term (option_map_or means_variable o (option_map_or means_rule_variable v (option_map_or means_symbol m unknown))))
  meant_scopes (Some k) v n m c = λ h. (variable k, refl, alike_variable)
  meant_scopes None (Some k) n m c = λ h. (rule_variable k, refl, alike_rule_variable)
  meant_scopes None None n m known_to_none = tt
  meant_scopes None None n m (known_and_kept {k} e) = λ h. (symbol (rank keep k), refl, alike_symbol (e, refl))
  meant_scopes None None n m (known_and_left e) = λ h. absurd (true≢false (sym h.0 ∙ e))

  meant_left_scopes : (o v n m : Option ℕ) → NumberCut keep n m
      → Scopes KeptLeft (AlikeLeft (Renumbers keep)) (meant_left (option_map_or means_variable o (option_map_or means_rule_variable v (option_map_or means_symbol n unknown))))
      (meant_left (option_map_or means_variable o (option_map_or means_rule_variable v (option_map_or means_symbol m unknown))))
  meant_left_scopes (Some k) v n m c = λ h. (left_variable k, refl, alike_left_variable)
  meant_left_scopes None (Some k) n m c = λ h. (left_rule_variable k, refl, alike_left_rule_variable)
  meant_left_scopes None None n m known_to_none = tt
  meant_left_scopes None None n m (known_and_kept {k} e) = λ h. (left_symbol (rank keep k), refl, alike_left_symbol (e, refl))
  meant_left_scopes None None n m (known_and_left e) = λ h. absurd (true≢false (sym h.0 ∙ e))

  module _ (A B : Symbols) (symbols : SymbolsCut keep A B) (N M : Numbered) (names : NamesCut keep N M) where
    abbrev ScopesTree : Scoping Tree → Scoping Tree → Type 0
    ScopesTree = Scopes KeptTree (Alike (Renumbers keep))

    -- the two parts of a term
    two : (f : Tree → Tree → Tree) → ((a b : Tree) → term_symbols (f a b) ≡ term_symbols a ++ term_symbols b)
        → ((a b c d : Tree) → Alike (Renumbers keep) a c → Alike (Renumbers keep) b d → Alike (Renumbers keep) (f a b) (f c d))
        → (x x' y y' : Scoping Tree) → ScopesTree x x' → ScopesTree y y' → ScopesTree (both_scoped f x y) (both_scoped f x' y')
    two f e r x x' y y' = both_scopes KeptTree (Alike (Renumbers keep)) f f x x' y y' (λ a b h. kept_both keep (term_symbols a) (term_symbols b) (subst (AreKept keep) (e a b) h)) r

    pub term_scopes : (vars : Numbered) (bound : List Binder) (t : Written) → ScopesTree (term_of A N vars bound t) (term_of B M vars bound t)
    term_scopes vars bound (written_name x) = meant_scopes (number_from 0 (binds x) bound) (number_of vars x) (number_of N x) (number_of M x) (names x)
    term_scopes vars bound (written_qualified m x) = meant_scopes None None _ _ (symbols (Some m) x)
    term_scopes vars bound written_star = λ h. (star, refl, alike_star)
    term_scopes vars bound written_wild = tt
    term_scopes vars bound (written_apply f a) = two apply (λ a b. refl) (λ a b c d p q. alike_apply p q) _ _ _ _ (term_scopes vars bound f) (term_scopes vars bound a)
    term_scopes vars bound (written_arrow a b) = two product (λ a b. refl) (λ a b c d p q. alike_product p q) _ _ _ _ (term_scopes vars bound a) (term_scopes vars (None ∷ bound) b)
    term_scopes vars bound (written_product x a b) = two product (λ a b. refl) (λ a b c d p q. alike_product p q) _ _ _ _ (term_scopes vars bound a) (term_scopes vars (x ∷ bound) b)
    term_scopes vars bound (written_bare x b) = one_scopes KeptTree (Alike (Renumbers keep)) bare bare _ _ (λ a h. h) (λ a b p. alike_bare p) (term_scopes vars (x ∷ bound) b)
    term_scopes vars bound (written_annotated x a b) = two annotated (λ a b. refl) (λ a b c d p q. alike_annotated p q) _ _ _ _ (term_scopes vars bound a) (term_scopes vars (x ∷ bound) b)

    abbrev ScopesMaybe : Scoping (Option Tree) → Scoping (Option Tree) → Type 0
    ScopesMaybe = Scopes KeptMaybe (Maybe (Alike (Renumbers keep)))

    maybe_scopes : (vars : Numbered) (bound : List Binder) (o : Option Written) → ScopesMaybe (maybe_term_of A N vars bound o) (maybe_term_of B M vars bound o)
    maybe_scopes vars bound None = λ h. (None, refl, neither)
    maybe_scopes vars bound (Some t) = one_scopes KeptMaybe (Maybe (Alike (Renumbers keep))) Some Some _ _ (λ a h. h) (λ a b p. both p) (term_scopes vars bound t)

    left_scopes : (vars : Numbered) (bound : List Binder) (p : WrittenPattern) → Scopes KeptLeft (AlikeLeft (Renumbers keep)) (left_of A N vars bound p) (left_of B M vars bound p)
    left_scopes vars bound (pattern_name x) = meant_left_scopes (number_from 0 (binds x) bound) (number_of vars x) (number_of N x) (number_of M x) (names x)
    left_scopes vars bound (pattern_qualified m x) = meant_left_scopes None None _ _ (symbols (Some m) x)
    left_scopes vars bound pattern_wild = λ h. (left_wildcard, refl, alike_left_wildcard)
    left_scopes vars bound (pattern_guard t) = one_scopes KeptLeft (AlikeLeft (Renumbers keep)) left_guard left_guard _ _ (λ a h. h) (λ a b p. alike_left_guard p) (term_scopes vars [] t)
    left_scopes vars bound (pattern_apply f a) = both_scopes KeptLeft (AlikeLeft (Renumbers keep)) left_apply left_apply _ _ _ _ (λ l m h. kept_both keep (left_symbols l) (left_symbols m) h)
        (λ a b c d p q. alike_left_apply p q) (left_scopes vars bound f) (left_scopes vars bound a)
    left_scopes vars bound (pattern_bare x p) = one_scopes KeptLeft (AlikeLeft (Renumbers keep)) left_abstraction left_abstraction _ _ (λ a h. h) (λ a b q. alike_left_abstraction q) (left_scopes vars (x ∷ bound) p)

    -- ---- declarations

    abbrev IsFull : Declaration → Type 0
    IsFull d = (is_some d.typ || is_some d.body) ≡ true

    abbrev KeptDeclaration : Declaration → Type 0
    KeptDeclaration d = IsFull d × KeptMaybe d.typ × KeptMaybe d.body

    abbrev AlikeDeclaration : Declaration → Declaration → Type 0
    AlikeDeclaration d e = Maybe (Alike (Renumbers keep)) d.typ e.typ × Maybe (Alike (Renumbers keep)) d.body e.body

    parameter_kept : (a : Tree) (typ body : Option Tree) → KeptDeclaration (with_parameter a (record { typ = typ; body = body })) → KeptTree a × KeptDeclaration (record { typ = typ; body = body })
    parameter_kept a None None h = absurd (true≢false (sym h.0))
    parameter_kept a None (Some b) h = let q : KeptTree a × KeptTree b = kept_both keep (term_symbols a) (term_symbols b) h.2 in (q.0, (refl, tt, q.1))
    parameter_kept a (Some t) None h = let q : KeptTree a × KeptTree t = kept_both keep (term_symbols a) (term_symbols t) h.1 in (q.0, (refl, q.1, tt))
    parameter_kept a (Some t) (Some b) h = let q : KeptTree a × KeptTree t = kept_both keep (term_symbols a) (term_symbols t) h.1 in
        let r : KeptTree a × KeptTree b = kept_both keep (term_symbols a) (term_symbols b) h.2 in (q.0, (refl, q.1, r.1))

    mapped : (f g : Tree → Tree) (a b : Option Tree) → ((t u : Tree) → Alike (Renumbers keep) t u → Alike (Renumbers keep) (f t) (g u)) → Maybe (Alike (Renumbers keep)) a b
        → Maybe (Alike (Renumbers keep)) (option_map f a) (option_map g b)
    mapped f g a b k neither = neither
    mapped f g a b k (both p) = both (k _ _ p)

    parameter_alike : (a b : Tree) (d e : Declaration) → Alike (Renumbers keep) a b → AlikeDeclaration d e → AlikeDeclaration (with_parameter a d) (with_parameter b e)
    parameter_alike a b d e p q = (mapped (product a) (product b) d.typ e.typ (λ t u r. alike_product p r) q.0, mapped (annotated a) (annotated b) d.body e.body (λ t u r. alike_annotated p r) q.1)

    declaration_scopes : (bound : List Binder) (ps : List WrittenParam) (typ body : Option Written) → Scopes KeptDeclaration AlikeDeclaration (declaration_of A N bound ps typ body) (declaration_of B M bound ps typ body)
    declaration_scopes bound [] typ body = both_scopes KeptDeclaration AlikeDeclaration _ _ _ _ _ _ (λ a b h. (h.1, h.2)) (λ a b d e p q. (p, q)) (maybe_scopes no_names bound typ) (maybe_scopes no_names bound body)
    declaration_scopes bound (p ∷ ps) typ body = both_scopes KeptDeclaration AlikeDeclaration with_parameter with_parameter _ _ _ _ (λ a d h. parameter_kept a d.typ d.body h) (λ a d b e q r. parameter_alike a b d e q r)
        (term_scopes no_names bound p.typ) (declaration_scopes (p.binder ∷ bound) ps typ body)

    -- ---- rules

    if_refused : {A B : Type 0} (K : A → Type 0) (R : A → B → Type 0) (b : Bool) (c : Code) (x : Scoping A) (y : Scoping B) → Scopes K R x y → Scopes K R (if b then refused c else x) (if b then refused c else y)
    if_refused K R true c x y h = tt
    if_refused K R false c x y h = h

    abbrev KeptNotes : List (Option Tree) → Type 0
    KeptNotes ns = AreKept keep (notes_symbols ns)

    notes_scopes : (before : Numbered) (es : List WrittenNote) → Scopes KeptNotes (Each (Maybe (Alike (Renumbers keep)))) (notes_of A N before es) (notes_of B M before es)
    notes_scopes before [] = λ h. ([], refl, none_left)
    notes_scopes before (e ∷ es) = if_refused _ _ (is_some (number_of before e.name)) _ _ _ (both_scopes KeptNotes (Each (Maybe (Alike (Renumbers keep)))) _ _ _ _ _ _
        (λ n ns h. kept_both keep (maybe_symbols n) (notes_symbols ns) h) (λ a b d f p q. one_more p q) (maybe_scopes before [] e.note) (notes_scopes (with_name before e.name) es))

    abbrev KeptSides : (PlainLeft × Tree) → Type 0
    KeptSides p = KeptLeft p.0 × KeptTree p.1

    abbrev AlikeSides : (PlainLeft × Tree) → (PlainLeft × Tree) → Type 0
    AlikeSides p q = AlikeLeft (Renumbers keep) p.0 q.0 × Alike (Renumbers keep) p.1 q.1

    sides_scopes : (vars : Numbered) (r : WrittenRule) → Scopes KeptSides AlikeSides (sides_of A N vars r) (sides_of B M vars r)
    sides_scopes vars r = both_scopes KeptSides AlikeSides _ _ _ _ _ _ (λ l t h. h) (λ a b d e p q. (p, q)) (left_scopes vars [] r.left) (term_scopes vars [] r.right)

    abbrev KeptRule : PlainScopedRule → Type 0
    KeptRule r = AreKept keep (rule_symbols r)

    rule_scopes : (r : WrittenRule) → Scopes KeptRule (AlikeScopedRule (Renumbers keep)) (rule_of A N r) (rule_of B M r)
    rule_scopes r = both_scopes KeptRule (AlikeScopedRule (Renumbers keep)) _ _ _ _ _ _
        (λ ns s h. let q : KeptNotes ns × AreKept keep (left_symbols s.0 ++ term_symbols s.1) = kept_both keep (notes_symbols ns) (left_symbols s.0 ++ term_symbols s.1) h in (q.0, kept_both keep (left_symbols s.0) (term_symbols s.1) q.1))
        (λ a b d e p q. alike_scoped_rule p q.0 q.1) (notes_scopes no_names r.context) (sides_scopes (variables_of no_names r.context) r)

    abbrev KeptRules : List PlainScopedRule → Type 0
    KeptRules rs = AreKept keep (rules_symbols rs)

    rules_scopes : (rs : List WrittenRule) → Scopes KeptRules (Each (AlikeScopedRule (Renumbers keep))) (rules_of A N rs) (rules_of B M rs)
    rules_scopes [] = λ h. ([], refl, none_left)
    rules_scopes (r ∷ rs) = both_scopes KeptRules (Each (AlikeScopedRule (Renumbers keep))) _ _ _ _ _ _ (λ s ss h. kept_both keep (rule_symbols s) (rules_symbols ss) h) (λ a b d e p q. one_more p q) (rule_scopes r) (rules_scopes rs)

    -- ---- queries

    abbrev KeptAsked : PlainAsked → Type 0
    KeptAsked a = AreKept keep (asked_symbols a)

    asked_scopes : (a : WrittenAsked) → Scopes KeptAsked (AlikeAsked (Renumbers keep)) (asked_of A N a) (asked_of B M a)
    asked_scopes (asked_typed t a) = both_scopes KeptAsked (AlikeAsked (Renumbers keep)) typed typed _ _ _ _ (λ t a h. kept_both keep (term_symbols t) (term_symbols a) h) (λ t a u b p q. alike_typed p q)
        (term_scopes no_names [] t) (term_scopes no_names [] a)
    asked_scopes (asked_alike t u) = both_scopes KeptAsked (AlikeAsked (Renumbers keep)) alike alike _ _ _ _ (λ t a h. kept_both keep (term_symbols t) (term_symbols a) h) (λ t a u b p q. alike_alike p q)
        (term_scopes no_names [] t) (term_scopes no_names [] u)
    asked_scopes (asked_type t) = one_scopes KeptAsked (AlikeAsked (Renumbers keep)) type_of type_of _ _ (λ a h. h) (λ a b p. alike_type_of p) (term_scopes no_names [] t)
    asked_scopes (asked_value t) = one_scopes KeptAsked (AlikeAsked (Renumbers keep)) value_of value_of _ _ (λ a h. h) (λ a b p. alike_value_of p) (term_scopes no_names [] t)

    -- ---- commands

    declared_scopes : (n m : Option ℕ) (x : Scoping PlainCommand) (y : Scoping PlainCommand) → NumberCut keep n m → Scopes KeptCommand (AlikeCommand (Renumbers keep)) x y
        → (c d : Code) → Scopes KeptCommand (AlikeCommand (Renumbers keep)) (if is_some n then refused c else x) (if is_some m then refused d else y)
    declared_scopes n m x y known_to_none h c d = h
    declared_scopes n m x y (known_and_kept e) h c d = tt
    declared_scopes n m x y (known_and_left e) h c d = tt

    pub command_scopes : (f : WrittenForm) → Scopes KeptCommand (AlikeCommand (Renumbers keep)) (command_of A N f) (command_of B M f)
    command_scopes (written_declare s x ps typ body) = declared_scopes (number_of N x) (number_of M x) _ _ (names x)
        (one_scopes KeptCommand (AlikeCommand (Renumbers keep)) _ _ _ _ (λ d h. let q : KeptMaybe d.typ × KeptMaybe d.body = kept_both keep (maybe_symbols d.typ) (maybe_symbols d.body) h.1 in (h.0, q.0, q.1)) (λ d e p. alike_declare p.0 p.1) (declaration_scopes [] ps typ body)) _ _
    command_scopes (written_rules rs) = one_scopes KeptCommand (AlikeCommand (Renumbers keep)) _ _ _ _ (λ a h. h.1) (λ a b p. alike_rule_command p) (rules_scopes rs)
    command_scopes (written_query demand a) = one_scopes KeptCommand (AlikeCommand (Renumbers keep)) (query demand) (query demand) _ _ (λ a h. h.1) (λ a b p. alike_query p) (asked_scopes a)
    command_scopes (written_module m) = tt
    command_scopes (written_require m) = tt

  -- a command of a module
  pub form_scopes : (A B : Symbols) (m : Module) (f : WrittenForm) → SymbolsCut keep A B → Scopes KeptCommand (AlikeCommand (Renumbers keep)) (scope_of A m f) (scope_of B m f)
  form_scopes A B m f symbols = command_scopes A B symbols (own_of A m) (own_of B m) (symbols m) f
