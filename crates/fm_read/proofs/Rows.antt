-- Worked files, byte by byte: what is read of them, or the first fault and its position.
use Rattle.std.proofs.Common.{◌≡◌, ℕ, List, [], ◌∷◌, ◌++◌, Some, None, Ok, refl, take, map}
use Rattle.fm_read.specs.declared.fault.ReadKind.TheVariants.{Truncated, FormatTwo, NoEnd}
use Rattle.fm_read.specs.Reading.{Pair, quantity_from, read_quantity, past_data, past_message, past_text, past_meta, read_channel, read_event, read_entry}
use Rattle.fm_msg.specs.declared.msg.Msg.TheVariants.{On, Off}
use Rattle.fm_read.specs.Tracks.{entries, entries_from}
use Rattle.fm_read.specs.Decoded.{message_from, decoded}
use Rattle.fm_read.specs.Written.{messages, time_after}
use Rattle.fm_read.specs.Files.{tracks, read_chunk, chunk_fault, chunks_from, contents, position}
use Rattle.fm_read.specs.Kept.{behind_track}
use Rattle.fm_read.specs.WrittenFile.{track_part}

-- the bytes before a track's length
abbrev head : List ℕ
head = 77 ∷ 84 ∷ 104 ∷ 100 ∷ 0 ∷ 0 ∷ 0 ∷ 6 ∷ 0 ∷ 0 ∷ 0 ∷ 1 ∷ 1 ∷ 224 ∷ 77 ∷ 84 ∷ 114 ∷ 107 ∷ []

-- the track of a quarter note
abbrev note : List ℕ
note = 0 ∷ 255 ∷ 81 ∷ 3 ∷ 7 ∷ 161 ∷ 32 ∷ 0 ∷ 144 ∷ 60 ∷ 64 ∷ 131 ∷ 48 ∷ 128 ∷ 60 ∷ 64 ∷ 48 ∷ 255 ∷ 47 ∷ 0 ∷ []

-- its file
abbrev note_file : List ℕ
note_file = head ++ 0 ∷ 0 ∷ 0 ∷ 20 ∷ note

-- its entries: the tempo, the on, the off 432 ticks later, and the end 48 ticks later
abbrev note_entries : List Pair
note_entries =
    record { delta = 0; status = 255; lead = 0 ∷ []; bytes = 255 ∷ 81 ∷ 3 ∷ 7 ∷ 161 ∷ 32 ∷ [] }
    ∷ record { delta = 0; status = 144; lead = 0 ∷ []; bytes = 144 ∷ 60 ∷ 64 ∷ [] }
    ∷ record { delta = 432; status = 128; lead = 131 ∷ 48 ∷ []; bytes = 128 ∷ 60 ∷ 64 ∷ [] }
    ∷ record { delta = 48; status = 255; lead = 48 ∷ []; bytes = 255 ∷ 47 ∷ 0 ∷ [] }
    ∷ []

-- a quantity need not be the shortest, and a fifth byte isn't looked at
long_quantity : read_quantity (128 ∷ 128 ∷ 128 ∷ 0 ∷ 9 ∷ []) ≡ Ok (0, 9 ∷ [])
unfolding read_quantity quantity_from
long_quantity = refl

-- the track is read
note_is_read : entries None note ≡ Ok note_entries
unfolding entries_from read_entry read_event read_channel past_meta past_text past_message past_data read_quantity quantity_from
note_is_read = refl

-- the file is read
note_file_is_read : contents note_file ≡ Ok (record {
  head = 77 ∷ 84 ∷ 104 ∷ 100 ∷ 0 ∷ 0 ∷ 0 ∷ 6 ∷ 0 ∷ 0 ∷ 0 ∷ 1 ∷ 1 ∷ 224 ∷ [];
  format = 0;
  stated = 1;
  division = 480;
  parts = record { head = 77 ∷ 84 ∷ 114 ∷ 107 ∷ 0 ∷ 0 ∷ 0 ∷ 20 ∷ []; body = note } ∷ [];
})
unfolding contents chunks_from read_chunk chunk_fault entries_from read_entry read_event read_channel
    past_meta past_text past_message past_data read_quantity quantity_from
note_file_is_read = refl

-- its one track has these entries
note_tracks : tracks (record { head = 77 ∷ 84 ∷ 114 ∷ 107 ∷ 0 ∷ 0 ∷ 0 ∷ 20 ∷ []; body = note } ∷ []) ≡ note_entries ∷ []
unfolding entries_from read_entry read_event read_channel past_meta past_text past_message past_data read_quantity quantity_from
note_tracks = refl

-- which are at the ticks 0, 0, 432 and 480
note_ticks : map (λ n. time_after 0 (take n note_entries)) (1 ∷ 2 ∷ 3 ∷ 4 ∷ []) ≡ 0 ∷ 0 ∷ 432 ∷ 480 ∷ []
note_ticks = refl

-- and two of which are messages
note_messages : messages 0 note_entries ≡ (0, 144 ∷ 60 ∷ 64 ∷ []) ∷ (432, 128 ∷ 60 ∷ 64 ∷ []) ∷ []
note_messages = refl

note_is_decoded : decoded 0 note_entries ≡ (0, On 0 60 64) ∷ (432, Off 0 60) ∷ []
unfolding message_from
note_is_decoded = refl

-- without its last byte
cut_file : position (take 41 note_file) (contents (take 41 note_file)) ≡ Some (Truncated, 41)
unfolding contents chunks_from read_chunk chunk_fault entries_from read_entry read_event read_channel
    past_meta past_text past_message past_data read_quantity quantity_from
cut_file = refl

-- a track of length 0
empty_track : position (head ++ 0 ∷ 0 ∷ 0 ∷ 0 ∷ []) (contents (head ++ 0 ∷ 0 ∷ 0 ∷ 0 ∷ [])) ≡ Some (NoEnd, 22)
unfolding contents chunks_from read_chunk chunk_fault entries_from read_entry read_event read_channel
    past_meta past_text past_message past_data read_quantity quantity_from
empty_track = refl

-- format 2
second_format : position (take 9 note_file ++ 2 ∷ []) (contents (take 9 note_file ++ 2 ∷ [])) ≡ Some (FormatTwo, 8)
unfolding contents chunks_from read_chunk chunk_fault entries_from read_entry read_event read_channel
    past_meta past_text past_message past_data read_quantity quantity_from
second_format = refl

-- a line end behind the last chunk
line_behind : position (note_file ++ 10 ∷ []) (contents (note_file ++ 10 ∷ [])) ≡ Some (Truncated, 43)
unfolding contents chunks_from read_chunk chunk_fault entries_from read_entry read_event read_channel
    past_meta past_text past_message past_data read_quantity quantity_from
line_behind = refl

-- behind the first track of a chunk of another kind and two tracks is the second one
second_left : behind_track (record { head = 88 ∷ 70 ∷ 73 ∷ 72 ∷ 0 ∷ 0 ∷ 0 ∷ 0 ∷ []; body = [] } ∷ track_part note ∷ track_part [] ∷ [])
    ≡ track_part [] ∷ []
second_left = refl
