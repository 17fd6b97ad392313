-- Rules 6 to 8 of an image are those of its tree.
use mathlib.Core.Path.{◌≡◌, refl, sym, ap, ◌∙◌}
use mathlib.Core.Bool.{true, ◌&&◌}
use mathlib.Core.List.{List}
use mathlib.Core.Logic.{inl, inr, ⊎_elim}
use Prim.Native.Nat.{ℕ, zero, suc, ◌+◌, ◌<◌}
use native.Mathlib.Omega.{arith}
use Rattle.base.proofs.Finds.{eq-cases}
use Rattle.structs.specs.Types.{is_folder}
use Rattle.table.specs.declared.Table.{Table}
use Rattle.rules.specs.Image.{ids_in, is_node, rec_of, is_folder_at, names_in, named, subfolders, parent_of, climb}
use Rattle.rules.specs.Rules.{Rule6, Linked, Removed, Rule7, Rule8}
use Rattle.tree.specs.Tree.{Spelling, names_of, all_names, subs_of, parent, up, LinkedIn, RemovedIn, Lives, Tidy}
use Rattle.image.specs.Midway.{tree_of, Spells}

module _ (a : List ℕ) (t : Table) where
  pub named-tree : (x : ℕ) → named a t x ≡ all_names (tree_of a t) x
  unfolding named names_in all_names names_of is_folder_at
  named-tree x = refl

  pub subs-tree : (i : ℕ) → subfolders a (rec_of a t i) ≡ subs_of (tree_of a t) i
  unfolding subfolders subs_of
  subs-tree i = refl

  pub climb-tree : (i n : ℕ) → climb a t i n ≡ up (tree_of a t) i n
  unfolding climb up parent_of
  climb-tree i zero = refl
  climb-tree i (suc n) = ap (parent (tree_of a t)) (climb-tree i n)

  -- from the rules
  pub tidy_of : {style : Spelling} → ((i : ℕ) → is_node a i ≡ true → i < ids_in a) → is_node a 2 ≡ true → is_folder (rec_of a t 2).kind ≡ true → Rule6 a t → Rule7 a t → Rule8 a t → Spells style a t → Tidy style (tree_of a t)
  unfolding is_folder_at parent_of up
  tidy_of below two dir S L E N = record {
    below = below;
    two = root-lives;
    folder = λ i f. let F = S.folder i f in record {
      blocks = F.blocks;
      length = F.length;
      dot = F.dot;
      own = F.own;
      dot-kind = F.dot-kind;
      dots = F.dots;
      dots-kind = F.dots-kind;
      later = λ k x y. let e = F.later k x y in record { ended = e.ended; some = e.some; no-dot = e.no-dot; no-dots = e.no-dots; spelt = N i k f x y; node = e.node; kind = e.kind };
      distinct = F.distinct;
    };
    sized = S.size;
    other = λ i n f. L.other i n f ∙ named-tree i;
    unnamed = L.unnamed;
    either = λ i f. ⊎_elim
        (λ (h : Linked a t i). inl (record { links = h.links ∙ ap (λ (n : ℕ). 2 + n) (subs-tree i); root = λ e. sym (named-tree i) ∙ h.root e; once = λ e. sym (named-tree i) ∙ h.once e }))
        (λ (h : Removed a t i). inr (record { apart = h.apart; opened = h.opened; links = h.links; unnamed = sym (named-tree i) ∙ h.loose.unnamed; slots = h.loose.slots }))
        (L.folder i f);
    root = E.root root-lives.links;
    parents = λ i l n. (E.folder i l.folder l.links n).parent;
    names = λ i l n. let k = (E.folder i l.folder l.links n).names in record { at = k.0; later = k.1; inside = k.2; is = k.3 };
    climbs = λ i l. ⊎_elim
        (λ (e : i ≡ 2). (0, e))
        (λ n. let c = (E.folder i l.folder l.links n).climbs in (c.0, sym (climb-tree i c.0) ∙ c.1))
        (eq-cases i 2);
  }
    where
      folder-two : is_folder_at a t 2 ≡ true
      folder-two = λ x. two x && dir x

      root-lives : Lives (tree_of a t) 2
      root-lives = record {
        folder = folder-two;
        links = ⊎_elim (λ (h : Linked a t 2). λ z. omega (arith, h.links)) (λ (h : Removed a t 2). absurd (h.apart refl)) (L.folder 2 folder-two);
      }

  -- and back
  module _ {style : Spelling} (I : Tidy style (tree_of a t)) where
    pub tidy-spells : Spells style a t
    unfolding is_folder_at
    tidy-spells i k f x y = ((I.folder i f).later k x y).spelt

    pub tidy-six : Rule6 a t
    unfolding is_folder_at
    tidy-six = record {
      folder = λ i f. let F = I.folder i f in record {
        blocks = F.blocks;
        length = F.length;
        dot = F.dot;
        own = F.own;
        dot-kind = F.dot-kind;
        dots = F.dots;
        dots-kind = F.dots-kind;
        later = λ k x y. let e = F.later k x y in record { ended = e.ended; some = e.some; no-dot = e.no-dot; no-dots = e.no-dots; node = e.node; kind = e.kind };
        distinct = F.distinct;
      };
      size = I.sized;
    }

    pub tidy-seven : Rule7 a t
    unfolding is_folder_at
    tidy-seven = record {
      other = λ i n f. I.other i n f ∙ sym (named-tree i);
      unnamed = I.unnamed;
      folder = λ i f. ⊎_elim
          (λ (h : LinkedIn (tree_of a t) i). inl (record { links = h.links ∙ ap (λ (n : ℕ). 2 + n) (sym (subs-tree i)); root = λ e. named-tree i ∙ h.root e; once = λ e. named-tree i ∙ h.once e }))
          (λ (h : RemovedIn (tree_of a t) i). inr (record { apart = h.apart; opened = h.opened; links = h.links; loose = record { unnamed = named-tree i ∙ h.unnamed; slots = h.slots } }))
          (I.either i f);
    }

    pub tidy-eight : Rule8 a t
    unfolding is_folder_at parent_of
    tidy-eight = record {
      root = λ n. I.root;
      folder = λ i f n d.
          let l : Lives (tree_of a t) i = record { folder = f; links = n } in
          let k = I.names i l d in
          let c = I.climbs i l in
          record { parent = I.parents i l d; names = (k.at, k.later, k.inside, k.is); climbs = (c.0, climb-tree i c.0 ∙ c.1) };
    }
