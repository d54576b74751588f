mod NoteRows
