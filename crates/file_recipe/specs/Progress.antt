-- What each cloud has of a file as its secrets are dispersed one after the other.
use Rattle.std.specs.Prelude.{◌≡◌, ℕ, ◌+◌, ◌-◌, ◌<◌, ◌≤◌, List, [], ◌∷◌, ◌++◌, length, map, slice_index_or, slice_range}
use Rattle.std.specs.List.{flat_map}
use Rattle.sha2.specs.Sha256.{sha256}
use Rattle.rabin_chunker.specs.CdBase.Limits.{secret_limit}
use Rattle.rabin_chunker.specs.CdBase.shape.Shape.{Shape}
use Rattle.caont_rs.specs.Package.{share}
use Rattle.caont_rs.specs.ReedSolomon.Dispersal.{row}
use Rattle.file_recipe.specs.FileRecipe.{item_of}
use Rattle.file_recipe.specs.declared.cloud_file.CloudFile.{CloudFile}

-- Each of these places ends a part of 1 to 16,384 bytes, the first of which begins at `start`, and none lies behind the last.
abbrev pub AreEndsOfParts : ℕ → ℕ → List ℕ → Type 0
AreEndsOfParts last start [] = Unit {0}
AreEndsOfParts last start (end ∷ ends) = (start < end) × (end ≤ start + secret_limit) × (end ≤ last)
    × AreEndsOfParts last end ends

-- the parts of a file that end at these places, of which the first begins at `start`, where the bytes begin at `base`
abbrev pub parts_behind : ℕ → List ℕ → ℕ → List ℕ → List (List ℕ)
parts_behind base part start [] = []
parts_behind base part start (end ∷ ends) = slice_range part (start - base) (end - base) ∷ parts_behind base part end ends

-- what cloud j has before the first secret
abbrev pub unshared : Shape → ℕ → List ℕ → List ℕ → CloudFile
unshared s j path file = record {
  recipe = record { name_len = length path; name_share = share s j path; file_len = length file; items = [] };
  shares = [];
}

-- and with one share more
abbrev pub with_share : CloudFile → ℕ → List ℕ → CloudFile
with_share f len bytes = record {
  recipe = record { name_len = f.recipe.name_len; name_share = f.recipe.name_share; file_len = f.recipe.file_len; items = f.recipe.items ++ record { fp = record { 0 = sha256 bytes }; secret_len = len } ∷ [] };
  shares = f.shares ++ bytes;
}

-- and with those of several secrets
abbrev pub with_secrets : Shape → ℕ → CloudFile → List (List ℕ) → CloudFile
with_secrets s j f secrets = record {
  recipe = record { name_len = f.recipe.name_len; name_share = f.recipe.name_share; file_len = f.recipe.file_len; items = f.recipe.items ++ map (item_of s j) secrets };
  shares = f.shares ++ flat_map (share s j) secrets;
}

-- each of the clouds from `first` on has one share more, of those that lie one after another
abbrev pub EachWithShare : ℕ → ℕ → ℕ → List ℕ → List CloudFile → List CloudFile → Type 0
EachWithShare first len width shares before now = (j : ℕ) (d : CloudFile) → j < length before → slice_index_or now j d ≡ with_share (slice_index_or before j d) len (row width (first + j) shares)

-- each of the clouds from `first` on has the shares of these secrets more
abbrev pub EachWithSecrets : Shape → ℕ → List (List ℕ) → List CloudFile → List CloudFile → Type 0
EachWithSecrets s first secrets before now = (j : ℕ) (d : CloudFile) → j < length before → slice_index_or now j d ≡ with_secrets s (first + j) (slice_index_or before j d) secrets

-- the hashes of the shares at four places from a first one on, but for those from an end on
abbrev pub HasDigests : ℕ → List ℕ → ℕ → ℕ → List (List ℕ) → Type 0
HasDigests width shares base end four = (j : ℕ) → j < 4 → base + j < end → slice_index_or four j [] ≡ sha256 (row width (base + j) shares)
