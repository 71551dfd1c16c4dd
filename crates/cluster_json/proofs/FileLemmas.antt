-- What a file's members give its cluster, and what its bytes give it.
use Rattle.std.proofs.Common.{◌≡◌, ℕ, Bool, true, false, cond, List, map, slice_index, Some, None, Err, IsUtf8, refl}
use Rattle.std.specs.List.{All}
use Rattle.std.specs.Str.{is_utf8}
use Rattle.std.proofs.lemmas.List.Elements.{All-map, All-weaker}
use Rattle.std.proofs.lemmas.Str.{is_utf8-from_IsUtf8, IsUtf8-from_is_utf8}
use Rattle.serde_json.specs.Data.{Data}
use Rattle.serde_json.specs.Read.{read}
use Rattle.plan_terms.specs.declared.cluster.Part.{Part}
use Rattle.cluster_json.specs.Faults.{not_json}
use Rattle.cluster_json.specs.File.{meaning_of, file_at, file_where}
use Rattle.cluster_json.specs.Ranges.{AreLoads}
use Rattle.cluster_json.specs.declared.partitions.FilePart.{FilePart}

-- followers send nothing to clients
pub silent-map : (parts : List FilePart) → All (λ p. AreLoads p.part.loads) parts → All (λ (p : Part). slice_index p.loads.follow 2 ≡ 0) (map (λ p. p.part) parts)
silent-map parts loads =
    All-map (λ (p : Part). slice_index p.loads.follow 2 ≡ 0) (λ p. p.part) parts
    (All-weaker (λ (p : FilePart). AreLoads p.part.loads) (λ (p : FilePart). slice_index p.part.loads.follow 2 ≡ 0) (λ p h. h.silent) parts loads)

-- bytes that are read mean what their value means
pub meaning_of-read : (bytes : List ℕ) (d : Data) → IsUtf8 bytes → read bytes ≡ Some d → meaning_of bytes ≡ file_at d
unfolding meaning_of
meaning_of-read bytes d text is = rw (is_utf8-from_IsUtf8 bytes text, is) refl

-- bytes that aren't read are no JSON
pub meaning_of-refused : (bytes : List ℕ) → (IsUtf8 bytes → read bytes ≡ None) → meaning_of bytes ≡ Err not_json
unfolding meaning_of
meaning_of-refused bytes none = by (is_utf8 bytes) refl
  where
    by : (b : Bool) → is_utf8 bytes ≡ b → cond b (file_where (read bytes)) (Err not_json) ≡ Err not_json
    by true is = rw (none (IsUtf8-from_is_utf8 bytes is)) refl
    by false is = refl
