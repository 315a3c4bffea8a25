-- Texts that were written one after another.
use Rattle.std.proofs.Common.{◌≡◌, ℕ, ◌+◌, List, [], ◌∷◌, ◌++◌, length, take, drop, Option, Some, None, refl, sym, ap}
use Rattle.std.proofs.Common.{◌∙◌, subst, append_assoc, append-nil, arith}
use Rattle.std.specs.Io.KnownBytes.{Appends}
use Rattle.std.proofs.lemmas.List.{take-append-drop}
use Rattle.share_server.specs.CdEdges.Causes.{Rose}
use Rattle.serve_command.specs.declared.served.Served.{Served}
use Rattle.serve_command.specs.Lines.{ready_text, connection_text, connection_texts, serving_text}
use Rattle.serve_command.specs.Served.{IsTextWhole, IsSinkCut, IsLeftOut, output_of}

-- ---- bytes

-- a text and then another
pub appends_both : (before middle after : Option (List ℕ)) (x y : List ℕ) → Appends before middle x
    → Appends middle after y
    → Appends before after (x ++ y)
appends_both None middle after x y first second = tt
appends_both (Some xs) None after x y first second = absurd first
appends_both (Some xs) (Some ys) None x y first second = absurd second
appends_both (Some xs) (Some ys) (Some zs) x y first second = second ∙ ap (λ (l : List ℕ). l ++ y) first
    ∙ append_assoc xs x y

pub appends_nothing : (before : Option (List ℕ)) → Appends before before []
appends_nothing None = tt
appends_nothing (Some xs) = sym (append-nil xs)

module _ (a b : Option (List ℕ)) (m n : ℕ) where
  -- nothing was written
  pub whole_none : b ≡ a → n ≡ m → IsTextWhole (output_of a b m n) []
  whole_none same still = record {
    written = subst (λ (o : Option (List ℕ)). Appends a o []) (sym same) (appends_nothing a);
    sink = still;
  }

  -- the sink failed behind so many bytes of a line
  pub cut_at : (line : List ℕ) (sent : ℕ) → Appends a b (take sent line) → Rose m n
      → IsSinkCut 4 (output_of a b m n) [] line
  cut_at line sent appends rose = record {
    status_is = refl;
    part = take sent line;
    rest = drop sent line;
    parted = sym (take-append-drop sent line);
    written = appends;
    sink = rose;
  }

module _ (a b c : Option (List ℕ)) (m n o : ℕ) (front line : List ℕ) (whole : IsTextWhole (output_of a b m n) front) where
  pub whole_more : IsTextWhole (output_of b c n o) line → IsTextWhole (output_of a c m o) (front ++ line)
  whole_more more = record {
    written = appends_both a b c front line whole.written more.written;
    sink = more.sink
        ∙ whole.sink;
  }

  pub cut_more : IsSinkCut 4 (output_of b c n o) [] line → IsSinkCut 4 (output_of a c m o) front line
  cut_more cut = record {
    status_is = refl;
    part = cut.part;
    rest = cut.rest;
    parted = cut.parted;
    written = appends_both a b c front cut.part whole.written cut.written;
    sink = subst (λ (k : ℕ). Rose k o) whole.sink cut.sink;
  }

  pub left_more : IsLeftOut 6 (output_of b c n o) [] → IsLeftOut 6 (output_of a c m o) front
  left_more left = record {
    status_is = refl;
    whole = record {
      written = subst (λ (l : List ℕ). Appends a c l) (append-nil front)
          (appends_both a b c front [] whole.written left.whole.written);
      sink = left.whole.sink ∙ whole.sink;
    };
  }

-- ---- lines

texts_more : (number : ℕ) (all : List Served) (last : Served)
    → connection_texts number (all ++ last ∷ []) ≡ connection_texts number all ++ connection_text (number + length all)
    last
texts_more number [] last =
    let same : number + 0 ≡ number = omega arith in
    append-nil (connection_text number last) ∙ ap (λ (n : ℕ). connection_text n last) (sym same)
texts_more number (served ∷ all) last =
    let same : number + 1 + length all ≡ number + length (served ∷ all) = omega arith in
    ap (λ (l : List ℕ). connection_text number served ++ l)
    (texts_more (number + 1) all last
    ∙ ap (λ (n : ℕ). connection_texts (number + 1) all ++ connection_text n last) same)
    ∙ sym (append_assoc (connection_text number served) (connection_texts (number + 1) all)
    (connection_text (number + length (served ∷ all)) last))

-- the line of the next connection
pub serving_more : (address : List ℕ) (all : List Served) (last : Served)
    → serving_text address (all ++ last ∷ []) ≡ serving_text address all ++ connection_text (length all + 1) last
serving_more address all last =
    let same : 1 + length all ≡ length all + 1 = omega arith in
    ap (λ (l : List ℕ). ready_text address ++ l)
    (texts_more 1 all last ∙ ap (λ (n : ℕ). connection_texts 1 all ++ connection_text n last) same)
    ∙ sym (append_assoc (ready_text address) (connection_texts 1 all) (connection_text (length all + 1) last))

pub serving_none : (address : List ℕ) → serving_text address [] ≡ ready_text address
serving_none address = append-nil (ready_text address)
